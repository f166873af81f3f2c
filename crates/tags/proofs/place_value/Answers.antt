use borrow.Author.Tests.{eq-eqb, ne_eqb}
use Rattle.tags.proofs.place_value.Goals as goal

pub returns-then-before-ne0 : goal.returns-then-before-ne0
returns-then-before-ne0 c = rw (ne_eqb _ 0 c.if-before-ne0.true)

pub returns-then-good : goal.returns-then-good
returns-then-good c = rw (eq-eqb _ 0 c.if-before-ne0.false, c.if-good.true)

pub returns : goal.returns
returns c = rw (eq-eqb _ 0 c.if-before-ne0.false, c.if-good.false)
