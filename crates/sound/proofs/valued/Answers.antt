use borrow.Author.Tests.{ne_eqb}
use Rattle.sound.proofs.valued.Goals as goal

pub returns-then-c-eq1 : goal.returns-then-c-eq1
returns-then-c-eq1 c = rw c.if-c-eq1.true

pub returns : goal.returns
returns c = rw (c.unranged.ensures, ne_eqb _ 1 c.if-c-eq1.false)
