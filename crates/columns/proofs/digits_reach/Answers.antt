-- `columns::digits_reach` meets its contract, case by case.
-- Assumes nothing.
use borrow.Author.Tests.{eq-eqb, ne_eqb}
use Rattle.columns.specs.Reach.{digits_reach}
use Rattle.columns.proofs.digits_reach.Goals as goal

pub returns-then-w-eq1 : goal.returns-then-w-eq1
unfolding digits_reach
returns-then-w-eq1 c = rw (eq-eqb c.args.w 1 c.if-w-eq1.true)

pub returns-then-w-eq2 : goal.returns-then-w-eq2
unfolding digits_reach
returns-then-w-eq2 c = rw (ne_eqb c.args.w 1 c.if-w-eq1.false, eq-eqb c.args.w 2 c.if-w-eq2.true)

pub returns-then-w-eq3 : goal.returns-then-w-eq3
unfolding digits_reach
returns-then-w-eq3 c = rw (
  ne_eqb c.args.w 1 c.if-w-eq1.false,
  ne_eqb c.args.w 2 c.if-w-eq2.false,
  eq-eqb c.args.w 3 c.if-w-eq3.true,
)

pub returns : goal.returns
unfolding digits_reach
returns c = rw (
  ne_eqb c.args.w 1 c.if-w-eq1.false,
  ne_eqb c.args.w 2 c.if-w-eq2.false,
  ne_eqb c.args.w 3 c.if-w-eq3.false,
)
