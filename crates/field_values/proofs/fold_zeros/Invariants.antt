-- `field_values::fold_zeros` meets its contract. The invariant: the zeros left, after the number so far, give the whole.
use mathlib.Core.Path.{◌≡◌}
use Prim.Native.Nat.{◌-◌, ◌≤◌}
use Rattle.field_values.specs.rule.Value.{zeros}
use Rattle.field_values.specs.rule.Read.{capped_from}
use Rattle.field_values.specs.Steps.{small}
use Rattle.field_values.proofs.fold_zeros.Given as goal

abbrev pub invariant-loop : goal.invariant-loop
invariant-loop l = (capped_from l.from (zeros l.count) ≡ capped_from l.n (zeros (l.count - l.counter))) × (l.n ≤ small)
