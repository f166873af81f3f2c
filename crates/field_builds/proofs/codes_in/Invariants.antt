-- `field_builds::codes_in` meets its contract. The invariant: what is read goes on with the codes of the list.
use Prim.Native.Nat.{◌+◌, ◌≤◌}
use Rattle.field_builds.specs.Built.{Climb}
use Rattle.field_builds.proofs.codes_in.Given as goal

abbrev pub invariant-loop-k : goal.invariant-loop-k
invariant-loop-k l = Climb l.d l.at l.low l.high l.list l.k l.least l.i × (l.k + 1 ≤ l.least)
