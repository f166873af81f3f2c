use mathlib.Core.Path.{◌∙◌, sym}
use Rattle.values.specs.Line.{line_fault}
use Rattle.values.proofs.line_fault.Goals as goal

pub returns-then-not-formed : goal.returns-then-not-formed
unfolding line_fault
returns-then-not-formed c =
    rw (sym c.formed.ensures ∙ c.if-not-formed.true)

pub returns-then-b-v : goal.returns-then-b-v
unfolding line_fault
returns-then-b-v c =
    rw (
      sym c.formed.ensures ∙ c.if-not-formed.false,
      c.if-b-v.true,
    )

pub returns-then-large : goal.returns-then-large
unfolding line_fault
returns-then-large c =
    rw (
      sym c.formed.ensures
          ∙ c.if-not-formed.false,
      c.if-b-v.false,
      sym c.large.ensures ∙ c.if-large.true,
    )

pub returns-else-large : goal.returns-else-large
unfolding line_fault
returns-else-large c =
    rw (
      sym c.formed.ensures
          ∙ c.if-not-formed.false,
      c.if-b-v.false,
      sym c.large.ensures ∙ c.if-large.false,
    )
