use borrow.Author.Tests.{ne_eqb}
use Rattle.sound.proofs.format_good.Goals as goal

pub returns-then-c-eq0 : goal.returns-then-c-eq0
returns-then-c-eq0 c = rw c.if-c-eq0.true

pub returns : goal.returns
returns c = rw (ne_eqb _ 0 c.if-c-eq0.false)
