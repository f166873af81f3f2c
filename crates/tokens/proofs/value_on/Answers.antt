use mathlib.Core.Path.{◌∙◌, sym}
use Rattle.tokens.specs.Token.{value_here, value_on}
use Rattle.tokens.proofs.value_on.Goals as goal

pub returns-in-Ok : goal.returns-in-Ok
unfolding value_on
returns-in-Ok c = rw (sym c.gap_on.ensures ∙ c.in-Ok.is) c.value_apart.ensures

pub returns-in-Err : goal.returns-in-Err
unfolding value_on value_here
returns-in-Err c = rw (sym c.gap_on.ensures ∙ c.in-Err.is)
