use mathlib.Core.Path.{sym}
use Rattle.statements.specs.Note.{statement_on}
use Rattle.statements.proofs.statement_on.Goals as goal

pub returns : goal.returns
unfolding statement_on
returns c =
    rw (
      sym c.notes_apart-n.ensures,
      sym c.word_here.ensures,
    )
