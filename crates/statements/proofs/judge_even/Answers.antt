use Rattle.statements.specs.Spread.{judge_even}
use borrow.Author.Tests.{eq-eqb, ne_eqb}
use Rattle.statements.proofs.judge_even.Goals as goal

pub returns-then-count-eq0 : goal.returns-then-count-eq0
unfolding judge_even
returns-then-count-eq0 c =
    rw (eq-eqb _ _ c.if-count-eq0.true)

pub returns-then-width-count-ne0 : goal.returns-then-width-count-ne0
unfolding judge_even
returns-then-width-count-ne0 c =
    rw (
      ne_eqb _ _ c.if-count-eq0.false,
      ne_eqb _ _ c.if-width-count-ne0.true,
    )

pub returns : goal.returns
unfolding judge_even
returns c =
    rw (
      ne_eqb _ _ c.if-count-eq0.false,
      eq-eqb _ _ c.if-width-count-ne0.false,
    )
