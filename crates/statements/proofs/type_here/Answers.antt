use mathlib.Core.Path.{◌∙◌, sym}
use Rattle.statements.specs.Kinds.{type_here}
use Rattle.statements.proofs.type_here.Goals as goal

pub returns-in-Taken : goal.returns-in-Taken
unfolding type_here
returns-in-Taken c =
    rw (sym c.perhaps.ensures ∙ c.in-Taken.is)

pub returns-in-Taken-perhaps : goal.returns-in-Taken-perhaps
unfolding type_here
returns-in-Taken-perhaps c =
    rw (
      sym c.perhaps.ensures
          ∙ c.in_default.is,
      sym c.perhaps-2.ensures ∙ c.in-Taken-perhaps.is,
    )

pub returns-in-Taken-perhaps-2 : goal.returns-in-Taken-perhaps-2
unfolding type_here
returns-in-Taken-perhaps-2 c =
    rw (
      sym c.perhaps.ensures ∙ c.in_default.is,
      sym c.perhaps-2.ensures ∙ c.in_default-perhaps.is,
      sym c.perhaps-3.ensures ∙ c.in-Taken-perhaps-2.is,
    )

pub returns-in-Taken-perhaps-3 : goal.returns-in-Taken-perhaps-3
unfolding type_here
returns-in-Taken-perhaps-3 c =
    rw (
      sym c.perhaps.ensures ∙ c.in_default.is,
      sym c.perhaps-2.ensures ∙ c.in_default-perhaps.is,
      sym c.perhaps-3.ensures ∙ c.in_default-perhaps-2.is,
      sym c.perhaps-4.ensures ∙ c.in-Taken-perhaps-3.is,
    )

pub returns-in-Ok : goal.returns-in-Ok
unfolding type_here
returns-in-Ok c =
    rw (
      sym c.perhaps.ensures ∙ c.in_default.is,
      sym c.perhaps-2.ensures ∙ c.in_default-perhaps.is,
      sym c.perhaps-3.ensures ∙ c.in_default-perhaps-2.is,
      sym c.perhaps-4.ensures ∙ c.in_default-perhaps-3.is,
      sym c.word_here.ensures ∙ c.in-Ok.is,
    )

pub returns-in-Err : goal.returns-in-Err
unfolding type_here
returns-in-Err c =
    rw (
      sym c.perhaps.ensures ∙ c.in_default.is,
      sym c.perhaps-2.ensures ∙ c.in_default-perhaps.is,
      sym c.perhaps-3.ensures ∙ c.in_default-perhaps-2.is,
      sym c.perhaps-4.ensures ∙ c.in_default-perhaps-3.is,
      sym c.word_here.ensures ∙ c.in-Err.is,
    )
