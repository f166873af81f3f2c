use borrow.Author.Tests.{eq-eqb, ne_eqb}
use Rattle.values.proofs.point_codes.Goals as goal

pub returns-then-a-b : goal.returns-then-a-b
returns-then-a-b c = rw (eq-eqb _ _ c.if-a-b.true)

pub returns-else-a-b : goal.returns-else-a-b
returns-else-a-b c = rw (ne_eqb _ _ c.if-a-b.false)
