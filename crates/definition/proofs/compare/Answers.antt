use mathlib.Core.Path.{sym, ◌∙◌}
use Rattle.definition.specs.Code.{compared_by}
use Rattle.definition.proofs.compare.Goals as goal

pub returns-then-matches : goal.returns-then-matches
unfolding compared_by
returns-then-matches c = rw (sym c.matches.ensures ∙ c.if-matches.true)

pub returns-else-matches : goal.returns-else-matches
unfolding compared_by
returns-else-matches c = rw (sym c.matches.ensures ∙ c.if-matches.false)
