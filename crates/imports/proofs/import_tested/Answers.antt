-- `imports::import_tested` meets its contract: the names, and then the lines.
use Rattle.name_line.specs.rule.Names.{name_line}
use Rattle.imports.specs.rule.Import.{import_said}
use Rattle.imports.specs.Import.{roomed_refused, roomed_as, names_good, names_bad, names_broken, import_same, import_other}
use Rattle.imports.specs.Import.{import_torn}
use Rattle.imports.proofs.import_tested.Goals as goal

pub import_records-requires : goal.import_records-requires
import_records-requires c = record {
  table_known = c.requires.table_known;
  from_in_bounds = (
    (names_good (name_line c.args.def.now c.args.t.now c.args.rows) c.args.d.now
        c.judge_names.result c.judge_names.ensures
        c.in-Same.is).within,
    c.requires.len_bound,
  );
}

pub returns-in-Same : goal.returns-in-Same
returns-in-Same c =
    roomed_as (import_same c.args.def.now c.args.t.now c.args.d.now c.requires.table_known.1 (names_good
    (name_line c.args.def.now c.args.t.now c.args.rows) c.args.d.now
    c.judge_names.result c.judge_names.ensures
    c.in-Same.is)) c.import_records.ensures

pub returns-in-Differs : goal.returns-in-Differs
unfolding import_said
returns-in-Differs c =
    roomed_refused c.args.out.now (import_other c.args.def.now c.args.t.now c.args.d.now
    c.requires.table_known.1 (names_bad (name_line c.args.def.now c.args.t.now c.args.rows)
    c.args.d.now
    c.judge_names.result c.judge_names.ensures c.in-Differs.is))

pub returns-in-Torn : goal.returns-in-Torn
unfolding import_said
returns-in-Torn c =
    roomed_refused c.args.out.now (import_torn c.args.def.now c.args.t.now c.args.d.now
    c.requires.table_known.1 (names_broken (name_line c.args.def.now c.args.t.now c.args.rows)
    c.args.d.now c.judge_names.result c.judge_names.ensures
    c.in-Torn.is))
