use Rattle.tokens.specs.Token.{number_on}
use mathlib.Core.Path.{sym}
use Rattle.tokens.proofs.number_on.Goals as goal

pub returns : goal.returns
unfolding number_on
returns c =
    rw (
      sym c.gap_on-g.ensures,
      sym c.number_here.ensures,
    )
