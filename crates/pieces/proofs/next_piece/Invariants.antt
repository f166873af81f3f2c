-- `pieces::next_piece` meets its contract. The invariant: no boundary before i, the bytes below 32 before it are counted, and one stands
-- there if it is not the end.
use mathlib.Core.Path.{◌≡◌}
use mathlib.Core.Bool.{true}
use Prim.Native.Nat.{◌-◌, ◌≤◌, ◌<◌}
use lib.ListN.{length}
use Rattle.lows.specs.rule.Lows.{low_at}
use Rattle.cuts.specs.Records.{part}
use Rattle.pieces.specs.Pieces.{NoBoundary, low_count}
use Rattle.pieces.proofs.next_piece.Given as goal

abbrev pub invariant-loop-i : goal.invariant-loop-i
invariant-loop-i l = NoBoundary l.d l.from l.i × (l.lows ≡ low_count (part l.d l.from l.i)) × (l.i < length l.d → low_at l.d l.i ≡ true)
    × (l.lows ≤ l.i)

abbrev pub decreases-loop-i : goal.decreases-loop-i
decreases-loop-i l = length l.d - l.i
