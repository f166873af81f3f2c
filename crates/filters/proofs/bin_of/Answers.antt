use mathlib.Core.Path.{refl}
use Prim.Native.Nat.{◌%◌, ◌<◌}
use native.Mathlib.Nat.{mod-lt}
use native.Mathlib.Omega.{arith}
use Rattle.filters.specs.Sums.{bin_of}
use Rattle.filters.proofs.bin_of.Goals as goal

pub returns : goal.returns
unfolding bin_of
returns c = let l : c.args.sum % 512 < 512 = mod-lt c.args.sum (omega arith) in (refl, omega arith, omega arith)
