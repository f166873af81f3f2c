use Rattle.tokens.specs.Token.{choice_of}
use mathlib.Core.Path.{◌∙◌, sym}
use Rattle.tokens.proofs.perhaps.Goals as goal

pub returns-in-Matched : goal.returns-in-Matched
unfolding choice_of
returns-in-Matched c =
    rw (
      c.in-Ok.is,
      sym c.keyword.ensures ∙ c.in-Matched.is,
    )

pub returns-in-Not : goal.returns-in-Not
unfolding choice_of
returns-in-Not c =
    rw (
      c.in-Ok.is,
      sym c.keyword.ensures ∙ c.in-Not.is,
    )

pub returns-in-Err : goal.returns-in-Err
unfolding choice_of
returns-in-Err c =
    rw c.in-Err.is
