use mathlib.Core.Path.{sym}
use Rattle.statements.specs.Size.{size_on}
use Rattle.statements.specs.Note.{statement_on}
use Rattle.statements.proofs.size_on.Goals as goal

pub returns : goal.returns
unfolding size_on statement_on
returns c =
    rw (
      sym c.notes_on-s.ensures,
      sym c.word_here-w.ensures,
      sym c.number_on-n.ensures,
      sym c.judge_size.ensures,
    )
