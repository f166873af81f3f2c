use mathlib.Core.Path.{◌∙◌, sym}
use Rattle.definition.specs.Code.{followed}
use Rattle.definition.proofs.follow.Goals as goal

pub returns-in-Taken : goal.returns-in-Taken
unfolding followed
returns-in-Taken c =
    rw (
      sym c.notes_on-n.ensures,
      sym c.perhaps.ensures ∙ c.in-Taken.is,
    )

pub returns-in-Left : goal.returns-in-Left
unfolding followed
returns-in-Left c =
    rw (
      sym c.notes_on-n.ensures,
      sym c.perhaps.ensures ∙ c.in-Left.is,
    )
