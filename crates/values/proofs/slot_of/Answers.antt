use Prim.Native.Nat.{◌%◌, ◌<◌}
use native.Mathlib.Nat.{mod-lt}
use native.Mathlib.Omega.{arith}
use Rattle.values.specs.Value.{scaled_of}
use Rattle.values.specs.Room.{slot_of}
use Rattle.values.proofs.Shares.{size_number}
use Rattle.values.proofs.slot_of.Goals as goal

pub returns : goal.returns
unfolding slot_of scaled_of
returns c =
    let v = c.args.v in
    let l : v.size % 16381 < 16381 = mod-lt v.size (omega arith) in
    (rw (size_number v.minus v.size), omega arith)
