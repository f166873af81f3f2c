-- `matrices::put_records` meets its contract. The invariant: the summaries of the records so far stand, and the records that are left, put
-- from
-- here, give the whole.
-- Assumes nothing.
use mathlib.Core.Path.{◌≡◌}
use Prim.Native.Nat.{◌+◌, ◌-◌, ◌*◌, ◌≤◌}
use lib.ListN.{length}
use Rattle.little.specs.rule.Bytes.{put_at}
use Rattle.matrix.specs.Put.{put_entries}
use Rattle.columns.specs.rule.Columns.{columns_from}
use Rattle.matrices.specs.rule.Matrix.{matrix_entries, summaries_of}
use Rattle.matrices.specs.Parts.{records_in}
use Rattle.matrices.proofs.put_records.Given as goal

abbrev pub invariant-loop-n : goal.invariant-loop-n
invariant-loop-n l = (l.n ≤ l.records) × (length l.list ≡ length l.initial.list) × (length l.allowed ≡ length l.initial.allowed)
    × (length l.present ≡ length l.initial.present)
    × (length l.out ≡ length l.initial.out)
    × (put_at l.out 24 (summaries_of l.t l.h.rows (records_in l.d l.s.first l.s.step 0 l.n) (columns_from l.t l.h.rows 0 l.h.rows)) ≡ l.out)
    × (put_at (put_entries l.out (l.flags + l.n * l.columns) (l.values + 8 * (l.n * l.columns))
    (matrix_entries l.t l.h.rows (columns_from l.t l.h.rows 0 l.h.rows)
    (records_in l.d l.s.first l.s.step (l.n * l.s.step) (l.records - l.n)))) 24
    (summaries_of l.t l.h.rows (records_in l.d l.s.first l.s.step 0 l.records) (columns_from l.t l.h.rows 0 l.h.rows))
    ≡ put_at (put_entries l.initial.out (l.flags + l.initial.n * l.columns) (l.values + 8 * (l.initial.n * l.columns))
    (matrix_entries l.t l.h.rows (columns_from l.t l.h.rows 0 l.h.rows)
    (records_in l.d l.s.first l.s.step (l.initial.n * l.s.step) (l.records - l.initial.n)))) 24
    (summaries_of l.t l.h.rows (records_in l.d l.s.first l.s.step 0 l.records) (columns_from l.t l.h.rows 0 l.h.rows)))

abbrev pub decreases-loop-n : goal.decreases-loop-n
decreases-loop-n l = l.records - l.n
