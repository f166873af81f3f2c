use Rattle.pages.specs.Stand.{lines_from_lem}
use Rattle.pages.proofs.first_line.Goals as goal

pub returns-then-value_at : goal.returns-then-value_at
returns-then-value_at c = lines_from_lem _ _ _ c.pass_blanks-m.ensures.0 (c.value_at.ensures c.if-value_at.true)
