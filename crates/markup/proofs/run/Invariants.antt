use mathlib.Core.Path.{◌≡◌}
use lib.ListN.{drop}
use Rattle.markup.specs.rule.Bytes.{of_kind, run_of}
use Rattle.markup.proofs.run.Given as goal

abbrev pub invariant-loop-i : goal.invariant-loop-i
invariant-loop-i l = run_of (of_kind l.kind) l.at (drop l.at l.d) ≡ run_of (of_kind l.kind) l.i (drop l.i l.d)
