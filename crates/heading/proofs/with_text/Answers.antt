use Rattle.heading.specs.Heading.{with_text}
use borrow.Author.Tests.{eq-eqb, ne_eqb}
use Rattle.heading.proofs.with_text.Goals as goal

pub returns-then-which-eq0 : goal.returns-then-which-eq0
unfolding with_text
returns-then-which-eq0 c =
    rw (eq-eqb _ _ c.if-which-eq0.true)

pub returns-then-which-eq1 : goal.returns-then-which-eq1
unfolding with_text
returns-then-which-eq1 c =
    rw (
      ne_eqb _ _ c.if-which-eq0.false,
      eq-eqb _ _ c.if-which-eq1.true,
    )

pub returns-then-which-eq2 : goal.returns-then-which-eq2
unfolding with_text
returns-then-which-eq2 c =
    rw (
      ne_eqb _ _ c.if-which-eq0.false,
      ne_eqb _ _ c.if-which-eq1.false,
      eq-eqb _ _ c.if-which-eq2.true,
    )

pub returns : goal.returns
unfolding with_text
returns c =
    rw (
      ne_eqb _ _ c.if-which-eq0.false,
      ne_eqb _ _ c.if-which-eq1.false,
      ne_eqb _ _ c.if-which-eq2.false,
    )
