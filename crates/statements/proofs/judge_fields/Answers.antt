use Rattle.statements.specs.Spread.{judge_of}
use borrow.Author.Tests.{eq-eqb, ne_eqb}
use Rattle.statements.proofs.judge_fields.Goals as goal

pub returns-then-n-eq0 : goal.returns-then-n-eq0
unfolding judge_of
returns-then-n-eq0 c =
    rw (eq-eqb _ _ c.if-n-eq0.true)

pub returns-then-w-eq0 : goal.returns-then-w-eq0
unfolding judge_of
returns-then-w-eq0 c =
    rw (
      ne_eqb _ _ c.if-n-eq0.false,
      eq-eqb _ _ c.if-w-eq0.true,
    )

pub returns : goal.returns
unfolding judge_of
returns c =
    rw (
      ne_eqb _ _ c.if-n-eq0.false,
      ne_eqb _ _ c.if-w-eq0.false,
    )
