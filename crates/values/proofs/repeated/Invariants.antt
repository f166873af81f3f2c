-- `values::repeated` meets its contract. The invariant: no line before i says it.
use mathlib.Core.Path.{◌≡◌}
use mathlib.Core.Bool.{false}
use Prim.Native.Nat.{◌-◌}
use Rattle.values.specs.Line.{repeated_in}
use Rattle.values.specs.Room.{room_at}
use Rattle.values.proofs.repeated.Given as goal

abbrev pub invariant-loop-i : goal.invariant-loop-i
invariant-loop-i l = repeated_in (room_at l.lines l.first) (l.i - l.first) l.z ≡ false
