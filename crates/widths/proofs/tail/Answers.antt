use borrow.Author.Tests.{eq-eqb, ne_eqb}
use Rattle.widths.specs.rule.Width.{tail_of}
use Rattle.widths.proofs.tail.Goals as goal

pub returns-then-f-eq0 : goal.returns-then-f-eq0
unfolding tail_of
returns-then-f-eq0 c = rw (eq-eqb _ _ c.if-f-eq0.true)

pub returns-else-f-eq0 : goal.returns-else-f-eq0
unfolding tail_of
returns-else-f-eq0 c = rw (ne_eqb _ _ c.if-f-eq0.false)
