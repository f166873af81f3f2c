use mathlib.Core.Path.{◌≡◌, refl}
use Prim.Native.Nat.{◌+◌, ◌≤◌}
use native.Mathlib.Omega.{arith}
use lib.ListN.{length}
use Rattle.cells.specs.Cell.{paste_none}
use Rattle.record_values.specs.rule.Record.{row_reading, members_below, refused_below, cells_below}
use Rattle.record_values.specs.Rows.{members_in, refusals_in}
use Rattle.record_values.proofs.Laws.{set_room, step_at, step_fits, step_refused, step_list, step_out, refusals_one, rows_read}
use Rattle.record_values.proofs.read_rows.Goals as goal
use Rattle.record_values.proofs.read_rows.Goals.{After-read_row-a, In-loop-i}

-- row i's set has room behind those before it
behind : (c : In-loop-i) → c.loop-i.at ≤ length c.loop-i.list
behind c =
    let a = c.args in
    let l = c.loop-i in
    let s = set_room a.t.now a.rows a.bytes.now l.i c.loop-i-test.true a.list.now l.list l.at l.invariant.0
    l.auto.list c.requires.rows_in_bounds_2 in
    omega arith

-- what was read of row i
at_next : (c : After-read_row-a) → let a = c.args in
    c.loop-i.at + members_in c.read_row-a.result
    ≡ length (members_below (row_reading a.t.now a.rows a.bytes.now) (c.loop-i.i + 1))
at_next c =
    let a = c.args in
    let l = c.loop-i in
    step_at a.t.now a.rows a.bytes.now l.i c.loop-i-test.true a.list.now l.list l.at
    l.invariant.0 l.auto.list c.requires.rows_in_bounds_2 _ c.read-row.ensures _ _ c.read_row-a.ensures

refused_next : (c : After-read_row-a) → let a = c.args in
    c.loop-i.refused + refusals_in c.read_row-a.result
    ≡ refused_below (row_reading a.t.now a.rows a.bytes.now) (c.loop-i.i + 1)
refused_next c =
    let a = c.args in
    let l = c.loop-i in
    step_refused a.t.now a.rows a.bytes.now l.i c.loop-i-test.true a.list.now l.list
    l.at l.invariant.0 l.auto.list c.requires.rows_in_bounds_2 _ c.read-row.ensures _ _ c.read_row-a.ensures l.refused l.invariant.1

at_fits : (c : After-read_row-a) → c.loop-i.at + members_in c.read_row-a.result
    ≤ length c.loop-i.list
at_fits c =
    let a = c.args in
    let l = c.loop-i in
    step_fits a.t.now a.rows a.bytes.now l.i c.loop-i-test.true a.list.now l.list l.at
    l.invariant.0 l.auto.list c.requires.rows_in_bounds_2 _ c.read-row.ensures _ _ c.read_row-a.ensures

pub loop-i-init : goal.loop-i-init
unfolding members_below refused_below cells_below
loop-i-init c = (
  refl,
  refl,
  omega arith,
  paste_none c.args.out.now 0,
  paste_none c.args.list.now 0,
)

pub overflow_add-at : goal.overflow_add-at
overflow_add-at c =
    let f = at_fits (goal.at.overflow_add-at c).After-read_row-a in
    let e = c.members_in-at.ensures in
    let q = c.loop-i.auto.list in
    let g = c.well_formed.1.1.1.1.0 in
    omega arith

pub overflow_add-refused : goal.overflow_add-refused
overflow_add-refused c =
    let r = refusals_one c.read_row-a.result in
    let e = c.refusals_in-refused.ensures in
    let l = c.loop-i.invariant.2 in
    let f = c.requires.table_ready.few in
    let i = c.loop-i-test.true in
    omega arith

pub loop-i-preserved : goal.loop-i-preserved
loop-i-preserved c =
    let a = c.args in
    let l = c.loop-i in (
      rw c.members_in-at.ensures (at_next (goal.at.loop-i-preserved c).After-read_row-a),
      rw c.refusals_in-refused.ensures (refused_next (goal.at.loop-i-preserved c).After-read_row-a),
      (let r = refusals_one c.read_row-a.result in
          let e = c.refusals_in-refused.ensures in let q = l.invariant.2 in omega arith),
      step_out a.t.now a.rows a.bytes.now l.i c.loop-i-test.true a.list.now
          l.list l.at l.invariant.0 l.auto.list c.requires.rows_in_bounds_2 _ c.read-row.ensures _ _
          c.read_row-a.ensures a.out.now l.out _ _ c.requires.rows_in_bounds
          l.invariant.3 c.row_numbers-numbers.ensures c.paste.ensures,
      step_list a.t.now a.rows a.bytes.now l.i c.loop-i-test.true a.list.now
          l.list l.at l.invariant.0 l.auto.list c.requires.rows_in_bounds_2 _ c.read-row.ensures _ _
          c.read_row-a.ensures l.invariant.4,
    )

pub returns : goal.returns
returns c =
    let a = c.args in
    let l = c.loop-i in
    rows_read a.t.now a.rows a.bytes.now a.out.now a.list.now l.out l.list l.at l.refused l.i
    (omega arith) l.invariant.0 l.invariant.1 l.invariant.3 l.invariant.4

pub offset_bounds-list-at : goal.offset_bounds-list-at
offset_bounds-list-at c = let h = behind (goal.at.offset_bounds-list-at c).In-loop-i in omega arith

pub slice_bounds-read_row-count : goal.slice_bounds-read_row-count
slice_bounds-read_row-count c = behind (goal.at.slice_bounds-read_row-count c).In-loop-i

pub slice_bounds-read_row-start : goal.slice_bounds-read_row-start
slice_bounds-read_row-start c = behind (goal.at.slice_bounds-read_row-start c).In-loop-i
