-- `matrices::put_met` meets its contract. The invariant: the summaries that are left, put from here, give the whole, and the columns
-- stand.
-- Assumes nothing.
use mathlib.Core.Path.{◌≡◌}
use Prim.Native.Nat.{◌+◌, ◌-◌, ◌*◌}
use lib.ListN.{length, drop}
use Rattle.little.specs.rule.Bytes.{put_at}
use Rattle.matrices.specs.Summaries.{ColumnsThere, summaries_in}
use Rattle.matrices.proofs.put_met.Given as goal

abbrev pub invariant-loop-k : goal.invariant-loop-k
invariant-loop-k l = (length l.out ≡ length l.initial.out)
    × (drop l.flags l.out ≡ drop l.flags l.initial.out)
    × ColumnsThere l.initial.out l.columns (l.flags + l.k) (l.values + 8 * l.k) l.records (l.count - l.k)
    × (put_at l.out (l.at + 24 * l.k) (summaries_in l.initial.out l.columns (l.flags + l.k) (l.values + 8 * l.k) l.records (l.count - l.k))
    ≡ put_at l.initial.out l.at (summaries_in l.initial.out l.columns l.flags l.values l.records l.count))
