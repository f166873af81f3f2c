-- `field_values::left_of` meets its contract. The invariant: what is left of what stands behind.
use mathlib.Core.Path.{◌≡◌}
use lib.ListN.{drop}
use Rattle.field_values.specs.rule.Read.{left_of}
use Rattle.field_values.proofs.left_of.Given as goal

abbrev pub invariant-loop-i : goal.invariant-loop-i
invariant-loop-i l = left_of l.k l.s l.f ≡ left_of l.k (drop l.i l.s) (drop l.i l.f)
