use mathlib.Core.Path.{◌∙◌, sym}
use Rattle.heading.specs.Heading.{entry_of}
use Rattle.heading.proofs.entry_here.Goals as goal

pub returns-in-Taken : goal.returns-in-Taken
unfolding entry_of
returns-in-Taken c =
    rw (sym c.perhaps.ensures ∙ c.in-Taken.is)

pub returns-in-Taken-perhaps : goal.returns-in-Taken-perhaps
unfolding entry_of
returns-in-Taken-perhaps c =
    rw (
      sym c.perhaps.ensures
          ∙ c.in_default.is,
      sym c.perhaps-2.ensures ∙ c.in-Taken-perhaps.is,
    )

pub returns-in-Taken-perhaps-2 : goal.returns-in-Taken-perhaps-2
unfolding entry_of
returns-in-Taken-perhaps-2 c =
    rw (
      sym c.perhaps.ensures ∙ c.in_default.is,
      sym c.perhaps-2.ensures ∙ c.in_default-perhaps.is,
      sym c.perhaps-3.ensures ∙ c.in-Taken-perhaps-2.is,
    )

pub returns-in-Taken-perhaps-3 : goal.returns-in-Taken-perhaps-3
unfolding entry_of
returns-in-Taken-perhaps-3 c =
    rw (
      sym c.perhaps.ensures ∙ c.in_default.is,
      sym c.perhaps-2.ensures ∙ c.in_default-perhaps.is,
      sym c.perhaps-3.ensures ∙ c.in_default-perhaps-2.is,
      sym c.perhaps-4.ensures ∙ c.in-Taken-perhaps-3.is,
    )

pub returns-in-Taken-perhaps-4 : goal.returns-in-Taken-perhaps-4
unfolding entry_of
returns-in-Taken-perhaps-4 c =
    rw (
      sym c.perhaps.ensures ∙ c.in_default.is,
      sym c.perhaps-2.ensures ∙ c.in_default-perhaps.is,
      sym c.perhaps-3.ensures ∙ c.in_default-perhaps-2.is,
      sym c.perhaps-4.ensures ∙ c.in_default-perhaps-3.is,
      sym c.perhaps-5.ensures ∙ c.in-Taken-perhaps-4.is,
    )

pub returns-in-Left : goal.returns-in-Left
unfolding entry_of
returns-in-Left c =
    rw (
      sym c.perhaps.ensures ∙ c.in_default.is,
      sym c.perhaps-2.ensures ∙ c.in_default-perhaps.is,
      sym c.perhaps-3.ensures ∙ c.in_default-perhaps-2.is,
      sym c.perhaps-4.ensures ∙ c.in_default-perhaps-3.is,
      sym c.perhaps-5.ensures ∙ c.in-Left.is,
    )
