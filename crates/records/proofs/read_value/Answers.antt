-- `records::read_value` meets its contract: the table, the row, the length, and the rest by the inner function.
use mathlib.Core.Path.{sym, ◌∙◌}
use native.Mathlib.Omega.{arith}
use lib.ListN.{length}
use Rattle.records.proofs.Laws.{value_table, value_row, value_short, value_read, row_ready}
use Rattle.records.specs.Tables.{table_ready}
use Rattle.records.proofs.read_value.Goals as goal

pub returns-then-h-i : goal.returns-then-h-i
returns-then-h-i c = value_row _ _ _ _ (sym c.well_formed-2.ensures.says ∙ c.if-well_formed.true)
    _ c.read-h.ensures c.if-h-i.true

pub returns-then-bytes-h : goal.returns-then-bytes-h
returns-then-bytes-h c = value_short _ _ _ _ (sym c.well_formed-2.ensures.says
    ∙ c.if-well_formed.true) _ c.read-h.ensures
    c.if-h-i.false c.if-bytes-h.true

pub read-row-requires : goal.read-row-requires
read-row-requires c =
    let args = c.args in
    let l = c.if-h-i.false in
    let e = c.read-h.ensures in
    let long = rw e at c.if-bytes-h.false in
    let r = table_ready args.t.now (sym c.well_formed-2.ensures.says ∙ c.if-well_formed.true)
    (length args.bytes.now) long in
    let f = r.few in let s = r.stand in
    let k = rw e at l in
    (omega arith, omega arith)

pub read_row-a-requires : goal.read_row-a-requires
read_row-a-requires c =
    let args = c.args in
    row_ready _ _ args.bytes.now args.list.now (sym c.well_formed-2.ensures.says
    ∙ c.if-well_formed.true) _ c.read-h.ensures c.if-h-i.false
    c.if-bytes-h.false _ c.read-row.ensures

pub with_fault-requires : goal.with_fault-requires
with_fault-requires c =
    let args = c.args in
    row_ready _ _ args.bytes.now args.list.now (sym c.well_formed-2.ensures.says
    ∙ c.if-well_formed.true) _ c.read-h.ensures c.if-h-i.false c.if-bytes-h.false _
    c.read-row.ensures

pub returns-then-well_formed : goal.returns-then-well_formed
returns-then-well_formed c =
    value_read _ _ _ _ (sym c.well_formed-2.ensures.says
    ∙ c.if-well_formed.true) _ c.read-h.ensures c.if-h-i.false c.if-bytes-h.false _
    c.read-row.ensures _ _ _ c.read_row-a.ensures c.with_fault.ensures

pub returns : goal.returns
returns c = value_table _ _ _ _ (sym c.well_formed-2.ensures.says ∙ c.if-well_formed.false)
