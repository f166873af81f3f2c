-- `matrices::put_each` meets its contract. The invariant: the entries of the records that are left, put from here, give the whole.
-- Assumes nothing.
use mathlib.Core.Path.{◌≡◌}
use Prim.Native.Nat.{◌+◌, ◌*◌, ◌≤◌}
use lib.ListN.{length, drop}
use Rattle.columns.specs.Rows.{entries_by}
use mathlib.Core.Bool.{true}
use Rattle.matrices.specs.Parts.{records_in}
use Rattle.matrices.specs.Met.{Going}
use Rattle.matrices.specs.Blocks.{put_each}
use Rattle.matrices.proofs.put_each.Given as goal

abbrev pub invariant-loop-n : goal.invariant-loop-n
invariant-loop-n l = (length l.list ≡ length l.initial.list) × (length l.present ≡ length l.initial.present)
    × (length l.out ≡ length l.initial.out)
    × (put_each (λ r. entries_by l.row.kind l.t l.rows l.row r) l.columns l.out (l.flags + l.n * l.columns)
    (l.values + 8 * (l.n * l.columns)) (drop l.n (records_in l.d l.first l.step l.start l.records))
    ≡ put_each (λ r. entries_by l.row.kind l.t l.rows l.row r) l.columns l.initial.out l.flags l.values
    (records_in l.d l.first l.step l.start l.records))
    × (l.held ≤ l.n)
    × (l.near ≡ true → Going (λ r. entries_by l.row.kind l.t l.rows l.row r) l.m.gap l.m.count l.held l.present
    (drop l.n (records_in l.d l.first l.step l.start l.records))
    (records_in l.d l.first l.step l.start l.records))
