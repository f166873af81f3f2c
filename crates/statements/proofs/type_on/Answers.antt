use mathlib.Core.Path.{sym}
use Rattle.statements.specs.Kinds.{type_on}
use Rattle.statements.specs.Note.{statement_on}
use Rattle.statements.proofs.type_on.Goals as goal

pub returns : goal.returns
unfolding type_on statement_on
returns c =
    rw (
      sym c.notes_on-s.ensures,
      sym c.word_here-a.ensures,
      sym c.gap_on-g.ensures,
      sym c.type_here.ensures,
    )
