use mathlib.Core.Path.{◌∙◌, sym}
use Rattle.statements.specs.Opening.{version_here}
use borrow.Author.Tests.{eq-eqb, ne_eqb}
use Rattle.statements.proofs.version_at.Goals as goal

pub returns-then-end-n : goal.returns-then-end-n
unfolding version_here
returns-then-end-n c =
    rw (
      sym c.value_run-end.ensures,
      eq-eqb _ _ c.if-end-n.true,
    )

pub returns-then-m-end : goal.returns-then-m-end
unfolding version_here
returns-then-m-end c =
    rw (
      sym c.value_run-end.ensures,
      ne_eqb _ _ c.if-end-n.false,
      sym c.keyword.ensures ∙ c.in-Matched.is,
      eq-eqb _ _ c.if-m-end.true,
    )

pub returns-else-m-end : goal.returns-else-m-end
unfolding version_here
returns-else-m-end c =
    rw (
      sym c.value_run-end.ensures,
      ne_eqb _ _ c.if-end-n.false,
      sym c.keyword.ensures ∙ c.in-Matched.is,
      ne_eqb _ _ c.if-m-end.false,
    )

pub returns-in-Not : goal.returns-in-Not
unfolding version_here
returns-in-Not c =
    rw (
      sym c.value_run-end.ensures,
      ne_eqb _ _ c.if-end-n.false,
      sym c.keyword.ensures ∙ c.in-Not.is,
    )
