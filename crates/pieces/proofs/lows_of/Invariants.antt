-- `pieces::lows_of` meets its contract. The invariant: the bits of the bytes from twice h on.
use mathlib.Core.Path.{◌≡◌}
use Prim.Native.Nat.{◌+◌, ◌*◌, ◌-◌}
use Rattle.pieces.specs.Scan.{low_bits}
use Rattle.pieces.proofs.lows_of.Given as goal

abbrev pub invariant-loop-h : goal.invariant-loop-h
invariant-loop-h l = l.bits ≡ low_bits l.d (l.i + 2 * l.h) (16 - 2 * l.h)
