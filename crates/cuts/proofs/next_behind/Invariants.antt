use mathlib.Core.Path.{◌≡◌}
use lib.ListN.{drop}
use Rattle.cuts.specs.rule.Cut.{next_from, end_from}
use Rattle.cuts.proofs.next_behind.Given as goal

abbrev pub invariant-loop-i : goal.invariant-loop-i
invariant-loop-i l = next_from l.w l.from (drop l.from l.d) ≡ end_from l.w l.from l.i (drop l.i l.d)
