-- `columns::mark_row` meets its contract: of a multiple its marks, of any other row how many columns its kind has.
-- Assumes nothing.
use native.Mathlib.Omega.{arith}
use Prim.Native.Nat.{◌≤◌}
use Rattle.columns.specs.Reach.{shape_of}
use Rattle.columns.specs.Rows.{few_row, many_row}
use Rattle.columns.proofs.mark_row.Goals as goal

pub returns-then-shape-lt2 : goal.returns-then-shape-lt2
returns-then-shape-lt2 c =
    let a = c.args in
    few_row a.t.now a.rows a.row _ 1 c.shape_of-shape.ensures c.if-shape-lt2.true

pub mark_set-requires : goal.mark_set-requires
mark_set-requires c = record {
  line_facts = c.requires.line_facts;
  covered = c.requires.covered (omega (arith, c.shape_of-shape.ensures, c.if-shape-lt2.false));
}

pub returns : goal.returns
returns c =
    let a = c.args in
    let s : 2 ≤ shape_of a.row.kind = omega
    (arith, c.shape_of-shape.ensures, c.if-shape-lt2.false) in
    many_row a.t.now a.rows a.row s c.mark_set.ensures
