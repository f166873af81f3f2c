-- `zarfolin::zarfolin_judge_file` meets its contract: the table, and then the file.
use mathlib.Core.Path.{sym, ◌∙◌}
use Rattle.files.specs.rule.File.{bad_table, file_said, file_verdict}
use Rattle.zarfolin.proofs.zarfolin_judge_file.Goals as goal

pub returns-then-well_formed : goal.returns-then-well_formed
returns-then-well_formed c = record {
  outcome = _;
  promise = c.judge_tested.ensures;
  tells = rw (← c.file_cells.ensures)
      c.tell.ensures;
}

pub returns : goal.returns
unfolding file_said file_verdict
returns c = record {
  outcome = bad_table;
  promise = record {
    says = rw (sym c.well_formed-2.ensures.says ∙ c.if-well_formed.false);
  };
  tells = rw (← c.file_cells-2.ensures)
      c.tell-2.ensures;
}

pub judge_tested-requires : goal.judge_tested-requires
judge_tested-requires c = sym c.well_formed-2.ensures.says ∙ c.if-well_formed.true
