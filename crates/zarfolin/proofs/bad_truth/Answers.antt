-- `zarfolin::bad_truth` meets its contract: the tests in their order, and then the row's kind.
use mathlib.Core.Path.{sym, ◌∙◌}
use mathlib.Core.List.{[]}
use Rattle.writes.proofs.Whole.{row_stands}
use Rattle.corrections.specs.Truth.{bad_table_lem, bad_row, bad_length, bad_kind}
use Rattle.zarfolin.proofs.bad_truth.Goals as goal

pub returns-then-h-i : goal.returns-then-h-i
returns-then-h-i c = bad_row _ _ _ (sym c.well_formed-2.ensures.says ∙ c.if-well_formed.true) _
    c.read-h.ensures c.if-h-i.true

pub returns-then-n-h : goal.returns-then-n-h
returns-then-n-h c = bad_length _ _ _ (sym c.well_formed-2.ensures.says
    ∙ c.if-well_formed.true) _ c.read-h.ensures
    c.if-h-i.false c.if-n-h.true

pub read-row-requires : goal.read-row-requires
read-row-requires c = row_stands _ _ [] (sym c.well_formed-2.ensures.says
    ∙ c.if-well_formed.true) _ c.read-h.ensures
    c.if-h-i.false

pub returns-then-well_formed : goal.returns-then-well_formed
returns-then-well_formed c =
    c.kind_number.ensures ∙ bad_kind _ _ _ (sym c.well_formed-2.ensures.says
    ∙ c.if-well_formed.true) _ c.read-h.ensures c.if-h-i.false
    c.if-n-h.false _ c.read-row.ensures

pub returns : goal.returns
returns c = bad_table_lem _ _ _ (sym c.well_formed-2.ensures.says ∙ c.if-well_formed.false)
