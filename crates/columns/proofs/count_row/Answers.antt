-- `columns::count_row` meets its contract: by its kind, or by its categories.
-- Assumes nothing.
use mathlib.Core.Path.{◌≡◌, sym, ap, ◌∙◌}
use Prim.Native.Nat.{◌≤◌}
use native.Mathlib.Omega.{arith}
use lib.ListN.{length}
use lib.Seq.{length-take-le}
use Rattle.layout.specs.rule.Row.{row_at}
use Rattle.fields.specs.rule.Legal.{legal}
use Rattle.fields.specs.rule.Row.{defined}
use Rattle.layout.specs.declared.Row.{Row}
use Rattle.columns.specs.Reach.{shape_of, Readable, row_stands, row_readable, covered_many, reach_low}
use Rattle.columns.specs.Marked.{defined_few}
use Rattle.columns.specs.Columns.{shape_count, shape_many, length_categories}
use Rattle.columns.specs.rule.Columns.{Column}
use mathlib.Core.List.{List}
use Rattle.columns.proofs.count_row.Goals as goal
use Rattle.columns.proofs.count_row.Goals.{After-reach_of-top, After-read-row, After-shape_of-shape}

-- the shape of the row that was read
shaped : (c : After-shape_of-shape) → c.shape_of-shape.result
    ≡ shape_of (row_at c.args.t.now c.args.i).kind
shaped c = c.shape_of-shape.ensures ∙ ap (λ (r : Row). shape_of r.kind) c.read-row.ensures

reaches : (c : After-reach_of-top) → c.reach_of-top.result ≤ length c.args.allowed.now
reaches c = omega (
  arith,
  c.reach_of-top.ensures,
  reach_low c.read-row.result.kind
      c.read-row.result.width,
  c.requires.2,
)

-- what is known of the row
known : (c : After-read-row) → Readable c.args.t.now c.args.h.rows c.read-row.result
    c.args.h.length
known c = rw c.read-row.ensures (row_readable c.requires.0 c.requires.1 c.args.h.length
    (omega arith))

pub read-row-requires : goal.read-row-requires
read-row-requires c = row_stands c.requires.0 c.requires.1

pub returns-then-shape-lt2 : goal.returns-then-shape-lt2
returns-then-shape-lt2 c =
    let a = c.args in
    let e = shaped (goal.at.returns-then-shape-lt2 c).After-shape_of-shape in
    (e ∙ shape_count a.t.now a.h.rows a.i (rw e at c.if-shape-lt2.true), omega (arith, c.if-shape-lt2.true))

pub slice_bounds-count_categories-end : goal.slice_bounds-count_categories-end
slice_bounds-count_categories-end c = reaches c

pub slice_bounds-count_categories-end-2 : goal.slice_bounds-count_categories-end-2
slice_bounds-count_categories-end-2 c = sym (length-take-le _ _
    (reaches (goal.at.slice_bounds-count_categories-end-2 c).After-reach_of-top))

pub count_categories-requires : goal.count_categories-requires
count_categories-requires c =
    let q = known (goal.at.count_categories-requires c).After-read-row in
    let s : 2 ≤ shape_of c.read-row.result.kind = omega
    (arith, c.shape_of-shape.ensures, c.if-shape-lt2.false) in record {
      line_facts = q.facts.lines;
      covered = rw (length-take-le c.reach_of-top.result
          c.args.allowed.now (reaches (goal.at.count_categories-requires c).After-reach_of-top))
          (covered_many q s c.reach_of-top.ensures);
    }

pub returns : goal.returns
returns c =
    let a = c.args in
    let e = shaped (goal.at.returns c).After-shape_of-shape in
    let s : 2 ≤ shape_of (row_at a.t.now a.i).kind = omega (arith, e, c.if-shape-lt2.false) in
    let n = c.count_categories.ensures.0 in
    let w = rw c.read-row.ensures at n in (
      w ∙ sym (ap (λ (l : List Column). length l) (shape_many a.t.now a.h.rows a.i s)
          ∙ length_categories a.i (defined (legal a.t.now a.h.rows (row_at a.t.now a.i)) 1 9999)),
      omega (arith, w, defined_few (legal a.t.now a.h.rows (row_at a.t.now a.i)) 1 9999),
    )
