-- `records::judge_record` meets its contract: the table, the length, and the rest by the inner function.
use mathlib.Core.Path.{sym, ◌∙◌}
use borrow.Author.Rules.{rules}
use Rattle.records.specs.rule.Verdict.{judged_as}
use Rattle.records.proofs.Laws.{verdict_table, verdict_short, verdict_rows, rows_ready}
use Rattle.records.proofs.judge_record.Goals as goal

pub returns-then-bytes-h : goal.returns-then-bytes-h
unfolding judged_as
returns-then-bytes-h c = verdict_short _ _ (sym c.well_formed-2.ensures.says ∙ c.if-well_formed.true)
    _ c.read-h.ensures c.if-bytes-h.true

pub judge_rows-requires : goal.judge_rows-requires
judge_rows-requires c = record {
  table_ready = rows_ready _ c.args.bytes.now (sym c.well_formed-2.ensures.says
      ∙ c.if-well_formed.true) _ c.read-h.ensures c.if-bytes-h.false;
  scratch_len_bound = search rules;
}

pub returns-then-h-le16 : goal.returns-then-h-le16
returns-then-h-le16 c =
    verdict_rows _ _ (sym c.well_formed-2.ensures.says
    ∙ c.if-well_formed.true) _ c.read-h.ensures c.if-bytes-h.false
    c.judge_rows.ensures

pub judge_rows-requires-then-well_formed : goal.judge_rows-requires-then-well_formed
judge_rows-requires-then-well_formed c = record {
  table_ready = rows_ready _ c.args.bytes.now (sym c.well_formed-2.ensures.says
      ∙ c.if-well_formed.true) _ c.read-h.ensures c.if-bytes-h.false;
  scratch_len_bound = search rules;
}

pub returns-then-well_formed : goal.returns-then-well_formed
returns-then-well_formed c =
    verdict_rows _ _ (sym c.well_formed-2.ensures.says
    ∙ c.if-well_formed.true) _ c.read-h.ensures c.if-bytes-h.false
    c.judge_rows-then-well_formed.ensures

pub returns : goal.returns
unfolding judged_as
returns c = verdict_table _ _ (sym c.well_formed-2.ensures.says ∙ c.if-well_formed.false)
