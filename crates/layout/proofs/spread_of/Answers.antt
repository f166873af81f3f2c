use borrow.Author.Tests.{eq-eqb, ne_eqb}
use Rattle.layout.specs.rule.Row.{spread_of}
use Rattle.layout.proofs.spread_of.Goals as goal

pub returns-then-count-eq0 : goal.returns-then-count-eq0
unfolding spread_of
returns-then-count-eq0 c = rw (eq-eqb _ _ c.if-count-eq0.true)

pub returns-else-count-eq0 : goal.returns-else-count-eq0
unfolding spread_of
returns-else-count-eq0 c = rw (ne_eqb _ _ c.if-count-eq0.false)
