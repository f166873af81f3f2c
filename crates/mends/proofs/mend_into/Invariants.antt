-- `mends::mend_into` meets its contract.
use mathlib.Core.Path.{◌≡◌}
use Prim.Native.Nat.{◌+◌, ◌-◌, ◌≤◌}
use lib.ListN.{length, drop}
use lib.Seq.{sets}
use Rattle.pieces.specs.rule.Pieces.{cut_from}
use Rattle.mends.specs.rule.Mend.{width_of, mended_of, mend_entries, entry_numbers}
use Rattle.mends.proofs.mend_into.Given as goal

abbrev pub invariant-loop-i : goal.invariant-loop-i
invariant-loop-i l = (l.i ≤ length l.d)
    × (l.number ≤ l.i)
    × (width_of 0 (cut_from 0 (drop l.i l.d)) ≤ l.width)
    × (sets l.initial.out 0 (mended_of l.width l.e (cut_from 0 l.d)) ≡ sets l.out l.at (mended_of l.width l.e (cut_from 0 (drop l.i l.d))))
    × (l.at + length (mended_of l.width l.e (cut_from 0 (drop l.i l.d))) ≤ length l.out)
    × (length l.out ≡ length l.initial.out)
    × (sets l.initial.list 0 (entry_numbers (mend_entries l.width l.e 1 0 (cut_from 0 l.d)))
    ≡ sets l.list l.k (entry_numbers (mend_entries l.width l.e (l.number + 1) l.i (cut_from 0 (drop l.i l.d)))))
    × (l.k + length (entry_numbers (mend_entries l.width l.e (l.number + 1) l.i (cut_from 0 (drop l.i l.d)))) ≤ length l.list)
    × (length l.list ≡ length l.initial.list)

abbrev pub decreases-loop-i : goal.decreases-loop-i
decreases-loop-i l = length l.d - l.i
