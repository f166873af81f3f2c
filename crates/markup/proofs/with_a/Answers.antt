use mathlib.Core.Path.{sym, ◌∙◌}
use Rattle.markup.proofs.with_a.Goals as goal

pub returns-then-is_there : goal.returns-then-is_there
returns-then-is_there c = rw (sym c.is_there.ensures ∙ c.if-is_there.true)

pub returns-then-is_there-2 : goal.returns-then-is_there-2
returns-then-is_there-2 c = rw (
  sym c.is_there.ensures ∙ c.if-is_there.false,
  sym c.is_there-2.ensures ∙ c.if-is_there-2.true,
)

pub returns-else-is_there-2 : goal.returns-else-is_there-2
returns-else-is_there-2 c = rw (
  sym c.is_there.ensures ∙ c.if-is_there.false,
  sym c.is_there-2.ensures ∙ c.if-is_there-2.false,
)
