use Rattle.statements.specs.Position.{judge_position}
use borrow.Author.Tests.{eq-eqb, le-ltb, lt-ltb, ne_eqb}
use Rattle.statements.proofs.judge_position.Goals as goal

pub returns-then-a-eq0 : goal.returns-then-a-eq0
unfolding judge_position
returns-then-a-eq0 c =
    rw (eq-eqb _ _ c.if-a-eq0.true)

pub returns-then-below : goal.returns-then-below
unfolding judge_position
returns-then-below c =
    rw (
      ne_eqb _ _ c.if-a-eq0.false,
      c.if-below.true,
    )

pub returns-then-a-gt16384 : goal.returns-then-a-gt16384
unfolding judge_position
returns-then-a-gt16384 c =
    rw (
      ne_eqb _ _ c.if-a-eq0.false,
      c.if-below.false,
      lt-ltb _ _ c.if-a-gt16384.true,
    )

pub returns-then-b-gt16384 : goal.returns-then-b-gt16384
unfolding judge_position
returns-then-b-gt16384 c =
    rw (
      ne_eqb _ _ c.if-a-eq0.false,
      c.if-below.false,
      le-ltb _ _ c.if-a-gt16384.false,
      lt-ltb _ _ c.if-b-gt16384.true,
    )

pub returns : goal.returns
unfolding judge_position
returns c =
    rw (
      ne_eqb _ _ c.if-a-eq0.false,
      c.if-below.false,
      le-ltb _ _ c.if-a-gt16384.false,
      le-ltb _ _ c.if-b-gt16384.false,
    )
