-- `faults::first_failing` meets its contract. The invariant: the first from here is the first of all.
use mathlib.Core.Path.{◌≡◌}
use Prim.Native.Nat.{◌+◌, ◌-◌}
use Rattle.places.specs.rule.Places.{run}
use Rattle.faults.specs.rule.Fault.{first_failing}
use Rattle.faults.proofs.first_failing.Given as goal

abbrev pub invariant-loop-i : goal.invariant-loop-i
invariant-loop-i l = first_failing l.x l.bytes (run (l.at + l.i) (l.w - l.i)) ≡ first_failing l.x l.bytes (run l.at l.w)
