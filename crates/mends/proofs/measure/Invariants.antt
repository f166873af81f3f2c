-- `mends::measure` meets its contract.
use mathlib.Core.Path.{◌≡◌}
use Prim.Native.Nat.{◌+◌, ◌-◌, ◌*◌, ◌≤◌}
use lib.ListN.{length, drop}
use Rattle.pieces.specs.rule.Pieces.{cut_from}
use Rattle.mends.specs.Sizes.{sizes_of}
use Rattle.mends.specs.Mend.{start}
use Rattle.mends.proofs.measure.Given as goal

abbrev pub invariant-loop-i : goal.invariant-loop-i
invariant-loop-i l = (l.i ≤ length l.d)
    × (sizes_of l.e l.z (cut_from 0 (drop l.i l.d)) ≡ sizes_of l.e (start l.least) (cut_from 0 l.d))
    × (l.z.short ≤ l.z.kept)
    × (l.z.kept ≤ l.i)
    × (l.z.others ≤ 2 * l.i)
    × (l.z.width ≤ l.least + l.i)

abbrev pub decreases-loop-i : goal.decreases-loop-i
decreases-loop-i l = length l.d - l.i
