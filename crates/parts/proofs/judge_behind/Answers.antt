-- `parts::judge_behind` meets its contract: judged behind one record, and recounted.
use mathlib.Core.Path.{ap, ◌∙◌}
use native.Mathlib.Omega.{arith}
use borrow.Author.Rules.{rules}
use Rattle.cuts.specs.rule.Records.{records_from}
use Rattle.parts.specs.Part.{recounted, behind, recounts}
use Rattle.parts.proofs.judge_behind.Goals as goal

pub judge_records-requires : goal.judge_records-requires
judge_records-requires c =
    let p = c.requires in record {
      tested = p.tested;
      ending = (p.ending, omega arith);
      scratch_len_bound = search rules;
    }

pub judge_records-requires-2 : goal.judge_records-requires-2
judge_records-requires-2 c =
    let p = c.requires in record {
      tested = p.tested;
      ending = (p.ending, omega arith);
      scratch_len_bound = search rules;
    }

pub recount-requires : goal.recount-requires
recount-requires c =
    let a = c.args in
    rw c.judge_records.ensures (behind a.t.now a.first (records_from a.w a.d.now) 1 a.first)

pub recount-requires-2 : goal.recount-requires-2
recount-requires-2 c =
    let a = c.args in
    rw c.judge_records-2.ensures (behind a.t.now a.first (records_from a.w a.d.now) 1 a.first)

pub returns-then-h-le16 : goal.returns-then-h-le16
returns-then-h-le16 c =
    let a = c.args in
    c.recount.ensures ∙ ap (recounted a.last) c.judge_records.ensures
    ∙ recounts a.t.now a.first a.last (records_from a.w a.d.now) 0

pub returns : goal.returns
returns c =
    let a = c.args in
    c.recount-2.ensures ∙ ap (recounted a.last) c.judge_records-2.ensures
    ∙ recounts a.t.now a.first a.last (records_from a.w a.d.now) 0
