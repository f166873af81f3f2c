use borrow.Author.Tests.{eq-eqb, ne_eqb}
use Rattle.cuts.specs.rule.Cut.{whole_at}
use Rattle.cuts.specs.Cut.{begins_here, begins_past}
use Rattle.cuts.proofs.whole_at.Goals as goal

pub returns-then-w-ne2 : goal.returns-then-w-ne2
unfolding whole_at
returns-then-w-ne2 c = rw (ne_eqb _ _ c.if-w-ne2.true)

pub returns-then-j-d : goal.returns-then-j-d
unfolding whole_at
returns-then-j-d c = rw (eq-eqb _ _ c.if-w-ne2.false, begins_here _ _ _ c.if-j-d.true)

pub returns-else-j-d : goal.returns-else-j-d
unfolding whole_at
returns-else-j-d c = rw (eq-eqb _ _ c.if-w-ne2.false, begins_past _ _ _ c.if-j-d.false)
