-- `field_values::take_codes` meets its contract. The invariant: the codes before a place stand in the list, and the digits of the next one.
use Prim.Native.Nat.{◌≤◌}
use Rattle.field_values.specs.Coded.{Coding}
use Rattle.field_values.proofs.take_codes.Given as goal

abbrev pub invariant-loop-b : goal.invariant-loop-b
invariant-loop-b l = Coding l.f l.list l.count l.n l.b-index × (l.count ≤ 9998)
