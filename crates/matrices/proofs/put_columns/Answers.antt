-- `matrices::put_columns` meets its contract: those of the row that stands there.
-- Assumes nothing.
use mathlib.Core.Path.{◌≡◌, sym, ap, ◌∙◌, subst}
use mathlib.Core.Bool.{cond}
use mathlib.Core.List.{List, []}
use Prim.Native.Nat.{ℕ, ◌*◌, ◌≤◌}
use native.Mathlib.Omega.{arith}
use lib.ListN.{length}
use lib.Seq.{length-take-le}
use Rattle.layout.specs.declared.Row.{Row}
use Rattle.little.specs.rule.Bytes.{put_at}
use Rattle.matrix.specs.declared.Entry.{Entry}
use Rattle.matrix.specs.Stride.{AllGood}
use Rattle.columns.specs.rule.Columns.{row_columns, entries_of}
use Rattle.columns.specs.Columns.{length_entries}
use Rattle.columns.specs.Reach.{Readable, row_stands, row_readable, covered_many, reach_low}
use Rattle.columns.specs.Room.{room_as}
use Rattle.columns.specs.Rows.{entries_by, count_by, row_entries, row_count}
use Rattle.matrices.specs.rule.Matrix.{summaries_of}
use Rattle.matrices.specs.Parts.{records_in, length_records}
use Rattle.matrices.specs.Entries.{record_at}
use Rattle.matrices.specs.Blocks.{put_each, each_columns}
use Rattle.matrices.specs.Good.{row_good_lem}
use Rattle.matrices.specs.Stand.{slots_of, row_summaries}
use Rattle.matrices.specs.Summaries.{summaries_in}
use Rattle.matrices.proofs.put_columns.Goals as goal
use Rattle.matrices.proofs.put_columns.Goals.{After-reach_of-top, After-read-row}

-- the row that was read
known : (c : After-read-row) (size : ℕ) → c.args.h.length ≤ size
    → Readable c.args.t.now c.args.h.rows
    c.read-row.result size
known c size l = rw c.read-row.ensures (row_readable c.requires.ready.tested
    c.requires.i_lt_rows.0 size l)

counted : (c : After-read-row) → length (row_columns c.args.t.now
    c.args.h.rows c.args.i)
    ≡ count_by c.read-row.result.kind c.args.t.now
    c.args.h.rows c.read-row.result
counted c =
    let a = c.args in
    row_count a.t.now a.h.rows a.i ∙ ap (λ (r : Row). count_by r.kind a.t.now a.h.rows r) (sym c.read-row.ensures)

reaches : (c : After-reach_of-top) → c.reach_of-top.result ≤ 10000
reaches c = omega (arith, c.reach_of-top.ensures, reach_low c.read-row.result.kind c.read-row.result.width)

pub put_marked-requires : goal.put_marked-requires
put_marked-requires c =
    let a = c.args in
    let p = c.requires in
    let x = length-take-le c.reach_of-top.result a.allowed.now
    (omega (arith, reaches (goal.at.put_marked-requires c).After-reach_of-top, p.ready.marks)) in
    let y = length-take-le c.reach_of-top.result a.present.now
    (omega (arith, reaches (goal.at.put_marked-requires c).After-reach_of-top, p.ready.marks_too)) in
    let q = known (goal.at.put_marked-requires c).After-read-row a.h.length (omega arith) in
    let rs = (records_in a.d.now a.s.first a.s.step a.p.from a.p.count) in record {
      tens = (p.ready.tens, p.ready.room, y ∙ sym x);
      line_facts = (q.facts.lines, λ s. rw x (covered_many q s c.reach_of-top.ensures));
      steps = (
        p.i_lt_rows.1,
        λ n l. (
          known (goal.at.put_marked-requires c).After-read-row (length (record_at rs n)) (p.i_lt_rows.2 n l).0,
          rw c.read-row.ensures ((p.i_lt_rows.2 n l).1 a.i p.i_lt_rows.0),
        ),
      );
      each_good = (λ n l.
          let r = record_at rs n in
          subst AllGood
          (row_entries a.t.now a.h.rows a.i r
          ∙ ap (λ (x : Row). entries_by x.kind a.t.now a.h.rows x r) (sym c.read-row.ensures))
          (row_good_lem p.ready.tested r (p.i_lt_rows.2 n l).0 a.i p.i_lt_rows.0));
      columns_bound = (
        p.columns_bound.0,
        p.columns_bound.1,
        p.columns_bound.2,
        p.columns_bound.3,
        omega (arith, counted (goal.at.put_marked-requires c).After-read-row, p.columns_bound.4),
        omega (arith, counted (goal.at.put_marked-requires c).After-read-row, p.columns_bound.5),
        omega (arith, counted (goal.at.put_marked-requires c).After-read-row, p.columns_bound.6),
        λ n l. room_as (counted (goal.at.put_marked-requires c).After-read-row) (p.columns_bound.7 n l),
      );
    }

pub returns : goal.returns
unfolding slots_of
returns c =
    let put = c.put_marked.ensures in
    let a = c.args in
    let p = c.requires in
    let row = c.read-row.result in
    let v = a.h.rows in
    let rs = (records_in a.d.now a.s.first a.s.step a.p.from a.p.count) in
    let many : a.p.count ≡ length rs = sym (length_records a.d.now a.s.first a.s.step a.p.from a.p.count) in
    let cs = row_columns a.t.now v a.i in
    let g : List ℕ → List Entry = λ r. entries_by row.kind a.t.now v row r in
    let whole = put_each g a.columns a.out.now a.flags a.values rs in
    let same : (r : List ℕ) → entries_of a.t.now v r cs ≡ g r = λ r. row_entries a.t.now v a.i r
    ∙ ap (λ (x : Row). entries_by x.kind a.t.now v x r) (sym c.read-row.ensures) in
    let summaries : summaries_in whole a.columns a.flags a.values a.p.count (count_by row.kind a.t.now v row)
    ≡ summaries_of a.t.now v rs cs =
    ap (λ (k : ℕ). summaries_in whole a.columns a.flags a.values k (count_by row.kind a.t.now v row)) many
    ∙ ap (λ (k : ℕ). summaries_in whole a.columns a.flags a.values (length rs) k) (sym (counted (goal.at.returns c).After-read-row))
    ∙ row_summaries a.t.now v cs g a.columns same
    (λ r. ap (λ (es : List Entry). length es) (sym (same r)) ∙ length_entries a.t.now v r cs) p.columns_bound.5 rs a.out.now
    a.flags a.values (omega (arith, p.columns_bound.3, ap (λ (x : ℕ). x * a.columns) many))
    (λ n l. p.columns_bound.7 n (omega (arith, l, many))) in (
      put.0 ∙ sym (counted (goal.at.returns c).After-read-row),
      put.1
          ∙ ap (λ (l : List ℕ). put_at whole a.at (cond a.told l [])) summaries
          ∙ ap (λ (l : List ℕ). put_at l a.at (cond a.told (summaries_of a.t.now v rs cs) []))
          (each_columns a.t.now v a.columns cs g same rs a.out.now a.flags a.values),
    )

pub read-row-requires : goal.read-row-requires
read-row-requires c = row_stands c.requires.ready.tested c.requires.i_lt_rows.0

pub slice_bounds-put_marked-end : goal.slice_bounds-put_marked-end
slice_bounds-put_marked-end c = omega (arith, reaches (goal.at.slice_bounds-put_marked-end c).After-reach_of-top, c.requires.ready.marks)

pub slice_bounds-put_marked-end-2 : goal.slice_bounds-put_marked-end-2
slice_bounds-put_marked-end-2 c = sym (length-take-le _ _ (omega (
  arith,
  reaches (goal.at.slice_bounds-put_marked-end-2 c).After-reach_of-top,
  c.requires.ready.marks,
)))

pub slice_bounds-put_marked-end-3 : goal.slice_bounds-put_marked-end-3
slice_bounds-put_marked-end-3 c = omega (
  arith,
  reaches (goal.at.slice_bounds-put_marked-end-3 c).After-reach_of-top,
  c.requires.ready.marks_too,
)

pub slice_bounds-put_marked-end-4 : goal.slice_bounds-put_marked-end-4
slice_bounds-put_marked-end-4 c = sym (length-take-le _ _ (omega (
  arith,
  reaches (goal.at.slice_bounds-put_marked-end-4 c).After-reach_of-top,
  c.requires.ready.marks_too,
)))
