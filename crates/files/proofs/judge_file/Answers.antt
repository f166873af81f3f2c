-- `files::judge_file` meets its contract: the table, and then its records.
use mathlib.Core.Path.{sym, ◌∙◌}
use Rattle.files.specs.rule.File.{file_said, file_verdict}
use Rattle.files.proofs.judge_file.Goals as goal

pub returns : goal.returns
unfolding file_verdict file_said
returns c = record { says = rw (sym c.well_formed-2.ensures.says ∙ c.if-well_formed.false) }

pub judge_tested-requires : goal.judge_tested-requires
judge_tested-requires c = sym c.well_formed-2.ensures.says ∙ c.if-well_formed.true

pub returns-then-well_formed : goal.returns-then-well_formed
returns-then-well_formed c = c.judge_tested.ensures
