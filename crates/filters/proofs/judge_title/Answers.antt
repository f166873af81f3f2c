use borrow.Author.Tests.{eq-eqb, ne_eqb}
use Rattle.filters.proofs.judge_title.Goals as goal

pub returns-then-unknown-ne0 : goal.returns-then-unknown-ne0
returns-then-unknown-ne0 c = rw (c.in-Ok.is, ne_eqb c.args.unknown 0 c.if-unknown-ne0.true)

pub returns-then-wrong : goal.returns-then-wrong
returns-then-wrong c = rw (
  c.in-Ok.is,
  eq-eqb c.args.unknown 0 c.if-unknown-ne0.false,
  c.if-wrong.true,
)

pub returns-then-empty : goal.returns-then-empty
returns-then-empty c = rw (
  c.in-Ok.is,
  eq-eqb c.args.unknown 0 c.if-unknown-ne0.false,
  c.if-wrong.false,
  c.if-empty.true,
)

pub returns-else-empty : goal.returns-else-empty
returns-else-empty c = rw (
  c.in-Ok.is,
  eq-eqb c.args.unknown 0 c.if-unknown-ne0.false,
  c.if-wrong.false,
  c.if-empty.false,
)

pub returns-in-Err : goal.returns-in-Err
returns-in-Err c = rw c.in-Err.is
