use mathlib.Core.Path.{sym}
use Rattle.definition.specs.Books.{ends_on}
use Rattle.definition.proofs.read_ends.Goals as goal

pub returns : goal.returns
unfolding ends_on
returns c =
    rw (
      sym c.word_on-a.ensures,
      sym c.statement_on-b.ensures,
      sym c.word_on-c.ensures,
      sym c.statement_on-e.ensures,
      sym c.word_on.ensures,
    )
