use borrow.Author.Tests.{eq-eqb, ne_eqb}
use Rattle.widths.specs.rule.Width.{least_whole}
use Rattle.widths.proofs.least_whole.Goals as goal

pub returns-then-f-eq2 : goal.returns-then-f-eq2
unfolding least_whole
returns-then-f-eq2 c = rw (eq-eqb _ _ c.if-f-eq2.true)

pub returns-else-f-eq2 : goal.returns-else-f-eq2
unfolding least_whole
returns-else-f-eq2 c = rw (ne_eqb _ _ c.if-f-eq2.false)
