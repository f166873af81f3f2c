-- `matrices::more_summaries` meets its contract. The invariant: the summaries that are left, extended and put from here, give the whole,
-- and
-- what stands behind is as it was.
-- Assumes nothing.
use mathlib.Core.Path.{◌≡◌}
use Prim.Native.Nat.{◌+◌, ◌-◌, ◌*◌}
use lib.ListN.{length, drop}
use Rattle.little.specs.rule.Bytes.{put_at}
use Rattle.matrices.specs.More.{extended_in}
use Rattle.matrices.proofs.more_summaries.Given as goal

abbrev pub invariant-loop-k : goal.invariant-loop-k
invariant-loop-k l = (length l.out ≡ length l.initial.out)
    × (drop (24 + 24 * l.k) l.out ≡ drop (24 + 24 * l.k) l.initial.out)
    × (put_at l.out (24 + 24 * l.k) (extended_in l.initial.out l.columns l.flags l.values l.records l.k (l.columns - l.k))
    ≡ put_at l.initial.out 24 (extended_in l.initial.out l.columns l.flags l.values l.records 0 l.columns))
