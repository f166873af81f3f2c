use mathlib.Core.Path.{sym}
use Rattle.statements.specs.Opening.{record_on}
use Rattle.statements.proofs.record_on.Goals as goal

pub returns : goal.returns
unfolding record_on
returns c =
    rw (
      sym c.statement_on-a.ensures,
      sym c.letter_on.ensures,
    )
