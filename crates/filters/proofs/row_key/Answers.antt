use mathlib.Core.Path.{sym, ◌∙◌}
use Prim.Native.Nat.{◌+◌, ◌≤◌}
use native.Mathlib.Omega.{arith}
use lib.ListN.{length}
use lib.Seq.{length-take-le}
use Rattle.xml_reading.specs.rule.Role.{signs_in}
use Rattle.filters.proofs.row_key.Goals as goal

pub column-q-requires : goal.column-q-requires
column-q-requires c = let y = c.requires.lying in let h = c.requires.i_lt_count in let f = y.few in (y.room, omega arith, omega arith)

pub column-requires : goal.column-requires
column-requires c = let y = c.requires.lying in let h = c.requires.i_lt_count in
    let f = y.few in (y.room, omega arith, omega arith)

pub overflow_add-e : goal.overflow_add-e
overflow_add-e c =
    let b = c.requires.lying.names c.args.i c.requires.i_lt_count in
    let e = c.column-q.ensures in
    let f = c.column.ensures in
    omega arith

pub slice_bounds-name_key-end : goal.slice_bounds-name_key-end
slice_bounds-name_key-end c =
    let b = c.requires.lying.names c.args.i
    c.requires.i_lt_count in
    let e = c.column-q.ensures in
    let f = c.column.ensures in
    let h : c.column-q.result + c.column.result
    ≤ length c.args.d.now = omega arith in
    sym (length-take-le _ _ h)

pub name_key-requires : goal.name_key-requires
name_key-requires c =
    let b = c.requires.lying.names c.args.i
    c.requires.i_lt_count in
    let e = c.column-q.ensures in
    let f = c.column.ensures in
    let h : c.column-q.result + c.column.result
    ≤ length c.args.d.now = omega arith in
    let n = length-take-le (c.column-q.result + c.column.result)
    c.args.d.now h in record {
      classes = c.requires.classes;
      at_in_bounds = omega arith;
    }

pub returns : goal.returns
unfolding signs_in
returns c = c.name_key.ensures ∙ rw (c.column-q.ensures, c.column.ensures)
