use mathlib.Core.Path.{sym}
use Rattle.statements.specs.Note.{statement_on, text_on}
use Rattle.variables.proofs.label_on.Goals as goal

pub returns : goal.returns
unfolding text_on statement_on
returns c =
    rw (
      sym c.notes_on-s.ensures,
      sym c.word_here-w.ensures,
      sym c.string_on.ensures,
    )
