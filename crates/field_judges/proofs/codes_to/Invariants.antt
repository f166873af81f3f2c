-- `field_judges::codes_to` meets its contract.
use Prim.Native.Nat.{◌-◌, ◌≤◌}
use Rattle.field_judges.specs.Judged.{Rise}
use Rattle.field_judges.proofs.codes_to.Given as goal

abbrev pub invariant-loop : goal.invariant-loop
invariant-loop l = Rise l.d l.at l.low l.high l.most l.least (l.most - l.counter) l.i × (l.low ≤ l.least)
