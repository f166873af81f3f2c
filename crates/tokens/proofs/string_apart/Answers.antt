use mathlib.Core.Path.{◌∙◌, sym}
use Rattle.tokens.specs.Token.{string_on}
use Rattle.tokens.proofs.string_apart.Goals as goal

pub returns-in-Ok : goal.returns-in-Ok
unfolding string_on
returns-in-Ok c = rw (sym c.gap_on.ensures ∙ c.in-Ok.is, sym c.string_at.ensures)

pub returns-in-Err : goal.returns-in-Err
unfolding string_on
returns-in-Err c = rw (sym c.gap_on.ensures ∙ c.in-Err.is)
