use mathlib.Core.Path.{sym}
use Rattle.entries.specs.Entry.{end_variable}
use Rattle.tokens.specs.Token.{word_on}
use Rattle.statements.specs.Note.{statement_on}
use Rattle.entries.proofs.end_variable.Goals as goal

pub returns : goal.returns
unfolding end_variable statement_on word_on
returns c =
    rw (
      sym c.notes_on-s.ensures,
      sym c.word_here-e.ensures,
      sym c.gap_on-g.ensures,
      sym c.word_here.ensures,
    )
