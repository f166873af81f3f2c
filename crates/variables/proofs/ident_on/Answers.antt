use mathlib.Core.Path.{sym}
use Rattle.variables.specs.Ident.{ident_on}
use Rattle.statements.specs.Note.{statement_on}
use Rattle.variables.proofs.ident_on.Goals as goal

pub returns : goal.returns
unfolding ident_on statement_on
returns c =
    rw (
      sym c.notes_on-s.ensures,
      sym c.word_here-w.ensures,
      sym c.number_on-n.ensures,
      sym c.judge_ident.ensures,
    )
