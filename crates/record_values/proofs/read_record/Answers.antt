-- `record_values::read_record` meets its contract: the table, the length, the room, and the rest by the inner function.
use mathlib.Core.Path.{sym, ◌∙◌}
use native.Mathlib.Omega.{arith}
use borrow.Author.Tests.{leb-true}
use Rattle.record_values.proofs.Laws.{whole_table, whole_short, whole_out, whole_list, whole_read, rows_ready}
use Rattle.record_values.proofs.read_record.Goals as goal

pub returns-then-bytes-h : goal.returns-then-bytes-h
returns-then-bytes-h c =
    let a = c.args in
    whole_short a.t.now a.bytes.now a.out.now a.list.now
    (sym c.well_formed-2.ensures.says ∙ c.if-well_formed.true) _
    c.read-h.ensures c.if-bytes-h.true

pub overflow_mul-h : goal.overflow_mul-h
overflow_mul-h c =
    let a = c.args in
    let r = rows_ready a.t.now a.bytes.now a.out.now a.list.now
    (sym c.well_formed-2.ensures.says ∙ c.if-well_formed.true) _
    c.read-h.ensures c.if-bytes-h.false in
    let f = r.few in
    omega arith

pub returns-then-out-h : goal.returns-then-out-h
returns-then-out-h c =
    let a = c.args in
    whole_out a.t.now a.bytes.now a.out.now a.list.now (sym c.well_formed-2.ensures.says
    ∙ c.if-well_formed.true) _ c.read-h.ensures c.if-bytes-h.false c.if-out-h.true

pub sets_fit-requires : goal.sets_fit-requires
sets_fit-requires c =
    let a = c.args in
    rows_ready a.t.now a.bytes.now a.out.now a.list.now (sym c.well_formed-2.ensures.says
    ∙ c.if-well_formed.true) _ c.read-h.ensures c.if-bytes-h.false

pub read_rows-y-requires : goal.read_rows-y-requires
read_rows-y-requires c =
    let a = c.args in record {
      table_ready = rows_ready a.t.now a.bytes.now a.out.now a.list.now (sym c.well_formed-2.ensures.says
          ∙ c.if-well_formed.true) _ c.read-h.ensures c.if-bytes-h.false;
      rows_in_bounds = c.if-out-h.false;
      rows_in_bounds_2 = leb-true _ _ (sym c.sets_fit.ensures ∙ c.if-sets_fit.true);
    }

pub returns-then-sets_fit : goal.returns-then-sets_fit
returns-then-sets_fit c =
    let a = c.args in
    whole_read a.t.now a.bytes.now a.out.now a.list.now (sym c.well_formed-2.ensures.says ∙ c.if-well_formed.true) _ c.read-h.ensures
    c.if-bytes-h.false c.if-out-h.false
    (sym c.if-sets_fit.true ∙ c.sets_fit.ensures) _ _ _ c.read_rows-y.ensures

pub returns-then-well_formed : goal.returns-then-well_formed
returns-then-well_formed c =
    let a = c.args in
    whole_list a.t.now a.bytes.now a.out.now a.list.now (sym c.well_formed-2.ensures.says
    ∙ c.if-well_formed.true) _ c.read-h.ensures c.if-bytes-h.false
    c.if-out-h.false (sym c.if-sets_fit.false ∙ c.sets_fit.ensures)

pub returns : goal.returns
returns c =
    let a = c.args in
    whole_table a.t.now a.bytes.now a.out.now a.list.now (sym c.well_formed-2.ensures.says ∙ c.if-well_formed.false)
