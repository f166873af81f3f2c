use borrow.Author.Tests.{eq-eqb, ne_eqb}
use Rattle.fronts.proofs.met.Goals as goal

pub returns-then-i-k : goal.returns-then-i-k
returns-then-i-k c = rw (c.if-f.false, eq-eqb _ _ c.if-i-k.true)

pub returns : goal.returns
returns c = rw (c.if-f.false, ne_eqb _ _ c.if-i-k.false)
