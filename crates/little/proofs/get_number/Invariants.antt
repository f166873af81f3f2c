-- `little::get_number` meets its contract. The invariant: n is what the bytes from i on say, so it is below their power of 256.
-- Assumes nothing.
use mathlib.Core.Path.{◌≡◌}
use Prim.Native.Nat.{◌+◌, ◌-◌, ◌^◌, ◌<◌}
use Rattle.little.specs.Bytes.{number_at}
use Rattle.little.proofs.get_number.Given as goal

abbrev pub invariant-loop-i : goal.invariant-loop-i
invariant-loop-i l = (l.n < 256 ^ (l.width - l.i)) × (l.n ≡ number_at (l.width - l.i) (l.at + l.i) l.s)
