use Rattle.tokens.specs.Token.{word_here}
use mathlib.Core.Path.{◌∙◌, sym}
use Rattle.tokens.proofs.word_here.Goals as goal

pub returns-in-Matched : goal.returns-in-Matched
unfolding word_here
returns-in-Matched c =
    rw (
      c.in-Ok.is,
      sym c.keyword.ensures ∙ c.in-Matched.is,
    )

pub returns-in-Not : goal.returns-in-Not
unfolding word_here
returns-in-Not c =
    rw (
      c.in-Ok.is,
      sym c.keyword.ensures ∙ c.in-Not.is,
    )

pub returns-in-Err : goal.returns-in-Err
unfolding word_here
returns-in-Err c =
    rw c.in-Err.is
