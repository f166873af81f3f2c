-- `field_values::fold_digits` meets its contract. The invariant: the bytes left, after the number so far, give the whole.
use mathlib.Core.Path.{◌≡◌}
use Prim.Native.Nat.{◌≤◌}
use lib.ListN.{drop}
use Rattle.field_values.specs.rule.Read.{capped_from}
use Rattle.field_values.specs.Steps.{small}
use Rattle.field_values.proofs.fold_digits.Given as goal

abbrev pub invariant-loop-b : goal.invariant-loop-b
invariant-loop-b l = (capped_from l.from l.f ≡ capped_from l.n (drop l.b-index l.f)) × (l.n ≤ small)
