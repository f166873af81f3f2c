-- `mends::note_lows` meets its contract. The invariant: no boundary before i, the bytes below 32 before it are counted and listed, what is
-- left makes
-- the whole, and one stands at i if it is not the end.
use mathlib.Core.Path.{◌≡◌}
use mathlib.Core.Bool.{true}
use Prim.Native.Nat.{◌+◌, ◌-◌, ◌*◌, ◌≤◌, ◌<◌}
use lib.ListN.{length}
use lib.Seq.{sets}
use Rattle.lows.specs.rule.Lows.{low_at}
use Rattle.cuts.specs.Records.{part}
use Rattle.pieces.specs.Pieces.{NoBoundary, low_count}
use Rattle.mends.specs.Mend.{lows_left}
use Rattle.mends.proofs.note_lows.Given as goal

abbrev pub invariant-loop-i : goal.invariant-loop-i
invariant-loop-i l = NoBoundary l.d l.from l.i
    × (l.lows ≡ low_count (part l.d l.from l.i))
    × (l.i < length l.d → low_at l.d l.i ≡ true)
    × (l.lows ≤ l.i)
    × (sets l.initial.list l.k (lows_left l.d l.number l.from) ≡ sets l.list l.m (lows_left l.d l.number l.i))
    × (l.k + length (lows_left l.d l.number l.from) ≡ l.m + length (lows_left l.d l.number l.i))
    × (length l.list ≡ length l.initial.list)
    × (l.m ≡ l.k + 3 * l.lows)

abbrev pub decreases-loop-i : goal.decreases-loop-i
decreases-loop-i l = length l.d - l.i
