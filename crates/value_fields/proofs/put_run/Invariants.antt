-- `value_fields::put_run` meets its contract. The invariant: what is set among the first j is stored.
use Prim.Native.Nat.{◌+◌, ◌-◌, ◌*◌}
use Rattle.value_fields.specs.Stretch.{Stretch}
use Rattle.value_fields.proofs.put_run.Given as goal

abbrev pub invariant-loop-j : goal.invariant-loop-j
invariant-loop-j g l = Stretch (l.j * (g.row.D + 1)) l.w l.bytes l.p (l.first - 1) (l.first - 1 + l.j) l.initial.out l.at l.out l.end
