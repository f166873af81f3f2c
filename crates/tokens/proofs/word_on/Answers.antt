use Rattle.tokens.specs.Token.{word_on}
use mathlib.Core.Path.{sym}
use Rattle.tokens.proofs.word_on.Goals as goal

pub returns : goal.returns
unfolding word_on
returns c =
    rw (
      sym c.gap_on-g.ensures,
      sym c.word_here.ensures,
    )
