-- `imports::import_records` meets its contract: judged, and then built.
use borrow.Author.Rules.{rules}
use lib.ListN.{drop}
use Rattle.csv_fields.specs.rule.Page.{start, page, page_lines}
use Rattle.import_rule.specs.rule.Text.{lines_say}
use Rattle.imports.specs.rule.Import.{import_said}
use Rattle.imports.specs.Import.{roomed_refused, judged_refused, judged_done}
use Rattle.imports.proofs.import_records.Goals as goal

pub mark_full-requires : goal.mark_full-requires
mark_full-requires c = (c.requires.table_known.0, search rules)

pub judge_records-judged-requires : goal.judge_records-judged-requires
judge_records-judged-requires c = record {
  tens = c.powers-powers.ensures;
  table_known = c.requires.table_known;
  from_in_bounds = (
    c.requires.from_in_bounds.0,
    c.requires.from_in_bounds.1,
    search rules,
    c.mark_full.ensures,
  );
  list_len = (search rules, search rules, search rules);
}

pub build_records-requires : goal.build_records-requires
build_records-requires c = record {
  tens = c.powers-powers.ensures;
  table_known = c.requires.table_known;
  from_in_bounds = (
    c.requires.from_in_bounds.0,
    c.requires.from_in_bounds.1,
    c.mark_full.ensures,
  );
  accepted = judged_done
      (lines_say
      c.args.t.now 2
      (page_lines (page start
      (drop c.args.from
      c.args.d.now))))
      c.judge_records-judged.result
      c.judge_records-judged.ensures c.in-Done.is;
  list_len = (search rules, search rules, search rules);
}

pub returns-in-Refused : goal.returns-in-Refused
unfolding import_said
returns-in-Refused c =
    roomed_refused
    c.args.out.now
    (judged_refused
    (lines_say
    c.args.t.now 2
    (page_lines (page start
    (drop c.args.from
    c.args.d.now))))
    c.judge_records-judged.result
    c.judge_records-judged.ensures c.in-Refused.is)
