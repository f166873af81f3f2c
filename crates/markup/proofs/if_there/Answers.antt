use mathlib.Core.Path.{sym, ◌∙◌}
use Rattle.markup.proofs.if_there.Goals as goal

pub returns-then-is_there : goal.returns-then-is_there
returns-then-is_there c = rw (sym c.is_there.ensures ∙ c.if-is_there.true)

pub returns-else-is_there : goal.returns-else-is_there
returns-else-is_there c = rw (sym c.is_there.ensures ∙ c.if-is_there.false)
