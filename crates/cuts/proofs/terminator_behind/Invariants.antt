use mathlib.Core.Path.{◌≡◌}
use lib.ListN.{drop}
use Rattle.cuts.specs.rule.Cut.{terminator_of}
use Rattle.cuts.proofs.terminator_behind.Given as goal

abbrev pub invariant-loop-i : goal.invariant-loop-i
invariant-loop-i l = terminator_of l.d ≡ terminator_of (drop l.i l.d)
