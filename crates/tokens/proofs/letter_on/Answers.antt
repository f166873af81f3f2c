use Rattle.tokens.specs.Token.{letter_on}
use mathlib.Core.Path.{◌∙◌, sym}
use Rattle.tokens.proofs.letter_on.Goals as goal

pub returns-in-Ok : goal.returns-in-Ok
unfolding letter_on
returns-in-Ok c =
    rw (
      sym c.gap_on.ensures ∙ c.in-Ok.is,
      sym c.letter_at.ensures,
    )

pub returns-in-Err : goal.returns-in-Err
unfolding letter_on
returns-in-Err c =
    rw (sym c.gap_on.ensures ∙ c.in-Err.is)
