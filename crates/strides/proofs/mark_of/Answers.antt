use Prim.Native.Nat.{◌%◌, ◌<◌}
use native.Mathlib.Nat.{mod-lt}
use native.Mathlib.Omega.{arith}
use mir.Facts.{to_z-of_z}
use Rattle.strides.specs.Stride.{mark_of}
use Rattle.strides.proofs.mark_of.Goals as goal

pub returns : goal.returns
unfolding mark_of
returns c =
    let l : c.signed_of.result.size % 16381 < 16381 = mod-lt c.signed_of.result.size (omega arith) in
    (rw (c.signed_of.ensures, to_z-of_z c.ranges.z), omega arith)
