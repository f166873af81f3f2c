use borrow.Author.Tests.{eq-eqb, ne_eqb, not-true, not-false}
use Rattle.blocks.proofs.own_point.Goals as goal

pub returns-then-not-v : goal.returns-then-not-v
returns-then-not-v c = rw (not-true c.args.v.point c.if-not-v.true)

pub returns-then-v-eq0 : goal.returns-then-v-eq0
returns-then-v-eq0 c = rw (not-false c.args.v.point c.if-not-v.false, eq-eqb _ _ c.if-v-eq0.true)

pub returns-else-v-eq0 : goal.returns-else-v-eq0
returns-else-v-eq0 c = rw (not-false c.args.v.point c.if-not-v.false, ne_eqb _ _ c.if-v-eq0.false)
