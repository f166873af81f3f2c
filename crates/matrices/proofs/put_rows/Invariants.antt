-- `matrices::put_rows` meets its contract. The invariant: the columns of the rows that are left, put from here, give the whole.
-- Assumes nothing.
use mathlib.Core.Path.{◌≡◌}
use Prim.Native.Nat.{◌+◌, ◌-◌, ◌*◌}
use lib.ListN.{length}
use Rattle.columns.specs.rule.Columns.{columns_from}
use Rattle.little.specs.rule.Bytes.{put_at}
use Rattle.matrices.specs.Parts.{records_in}
use Rattle.matrices.specs.Blocks.{put_columns}
use Rattle.matrices.specs.Stand.{slots_of}
use Rattle.matrices.proofs.put_rows.Given as goal

abbrev pub invariant-loop-i : goal.invariant-loop-i
invariant-loop-i l = (length l.list ≡ length l.initial.list)
    × (length l.allowed ≡ length l.initial.allowed)
    × (length l.present ≡ length l.initial.present)
    × (length l.out ≡ length l.initial.out)
    × (l.k + length (columns_from l.t l.h.rows l.i (l.h.rows - l.i)) ≡ l.columns)
    × (put_at (put_columns l.t l.h.rows l.columns (columns_from l.t l.h.rows l.i (l.h.rows - l.i)) l.out (l.flags + l.k)
    (l.values + 8 * l.k)
    (records_in l.d l.s.first l.s.step l.p.from l.p.count)) (24 + 24 * l.k)
    (slots_of l.told l.t l.h.rows (records_in l.d l.s.first l.s.step l.p.from l.p.count) (columns_from l.t l.h.rows l.i (l.h.rows - l.i)))
    ≡ put_at (put_columns l.t l.h.rows l.columns (columns_from l.t l.h.rows 0 l.h.rows) l.initial.out l.flags l.values
    (records_in l.d l.s.first l.s.step l.p.from l.p.count)) 24
    (slots_of l.told l.t l.h.rows (records_in l.d l.s.first l.s.step l.p.from l.p.count) (columns_from l.t l.h.rows 0 l.h.rows)))
