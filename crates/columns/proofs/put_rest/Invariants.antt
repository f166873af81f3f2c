-- `columns::put_rest` meets its contract. The invariant: the entries that are left, put from here, give the whole.
-- Assumes nothing.
use mathlib.Core.Path.{◌≡◌}
use Prim.Native.Nat.{◌+◌, ◌-◌, ◌*◌}
use lib.ListN.{length}
use Rattle.matrix.specs.Put.{put_entries}
use Rattle.columns.specs.Marked.{marked_from}
use Rattle.columns.specs.Ones.{marked_left}
use Rattle.columns.proofs.put_rest.Given as goal

abbrev pub invariant-loop-c : goal.invariant-loop-c
invariant-loop-c l = (l.k + length (marked_from l.there l.allowed l.present l.c (length l.allowed - l.c))
    ≡ length (marked_left l.there l.allowed l.present l.from))
    × (length l.out ≡ length l.initial.out)
    × (put_entries l.out (l.flags + l.k) (l.values + 8 * l.k) (marked_from l.there l.allowed l.present l.c (length l.allowed - l.c))
    ≡ put_entries l.initial.out l.flags l.values (marked_left l.there l.allowed l.present l.from))

abbrev pub decreases-loop-c : goal.decreases-loop-c
decreases-loop-c l = length l.allowed - l.c
