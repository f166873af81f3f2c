-- `mends::has_room` meets its contract.
use native.Mathlib.Omega.{arith}
use Prim.Native.Nat.{◌+◌}
use Rattle.mends.specs.Mend.{room_less, room_some, room_bytes}
use Rattle.mends.proofs.has_room.Goals as goal

pub returns-then-entries-z : goal.returns-then-entries-z
returns-then-entries-z c = let a = c.args in rw (room_less a.z.others a.z.short a.cells (omega (arith, c.if-entries-z.true)))

pub returns-then-entries-z-2 : goal.returns-then-entries-z-2
returns-then-entries-z-2 c = let a = c.args in
    rw (room_less a.z.others a.z.short a.cells (omega (arith, c.if-entries-z-2.true, c.if-entries-z.false)))

pub returns : goal.returns
returns c =
    let a = c.args in
    rw (room_some a.z.others a.z.short a.cells
    (omega (arith, c.if-entries-z-2.false, c.if-entries-z.false)))
    (room_bytes a.z.kept (a.z.width + a.size) a.room (omega arith))
