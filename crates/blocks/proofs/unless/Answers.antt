use borrow.Author.Tests.{eq-eqb, ne_eqb}
use Rattle.blocks.proofs.unless.Goals as goal

pub returns-then-found-ne0 : goal.returns-then-found-ne0
returns-then-found-ne0 c = rw (ne_eqb _ _ c.if-found-ne0.true)

pub returns : goal.returns
returns c = rw (eq-eqb _ _ c.if-found-ne0.false)
