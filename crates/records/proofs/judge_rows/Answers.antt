-- `records::judge_rows` meets its contract: by what was found.
use mathlib.Core.Path.{sym, ◌∙◌}
use Rattle.records.specs.rule.Verdict.{judged_as, rows_verdict, byte_verdict}
use Rattle.records.proofs.Laws.{plain_found}
use Rattle.records.proofs.judge_rows.Goals as goal

pub judge_plain-requires : goal.judge_plain-requires
judge_plain-requires c = record {
  table_ready = c.requires.table_ready;
  plain = plain_found c.args.bytes.now (sym c.low_byte.ensures ∙ c.in-None.is);
  scratch_len_bound = c.requires.scratch_len_bound;
}

pub returns-in-Some : goal.returns-in-Some
unfolding judged_as rows_verdict byte_verdict
returns-in-Some c = rw (← c.low_byte.ensures, c.in-Some.is)

pub returns-in-None : goal.returns-in-None
returns-in-None c = c.judge_plain.ensures
