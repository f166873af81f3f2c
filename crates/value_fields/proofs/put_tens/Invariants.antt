-- `value_fields::put_tens` meets its contract. The invariant: what is set from 10 on, before 10 * t, is stored.
use Prim.Native.Nat.{◌-◌, ◌*◌}
use Rattle.value_fields.specs.Stretch.{Stretch}
use Rattle.value_fields.proofs.put_tens.Given as goal

abbrev pub invariant-loop-t : goal.invariant-loop-t
invariant-loop-t l = Stretch (30 * (l.t - 1)) l.w l.bytes l.p 9 (10 * l.t - 1) l.initial.out l.at l.out l.end
