use Rattle.pages.specs.Page.{even_of}
use borrow.Author.Tests.{eq-eqb, ne_eqb}
use Rattle.pages.proofs.even_of.Goals as goal

pub returns-then-count-eq0 : goal.returns-then-count-eq0
unfolding even_of
returns-then-count-eq0 c = rw (eq-eqb _ _ c.if-count-eq0.true)

pub returns-else-count-eq0 : goal.returns-else-count-eq0
unfolding even_of
returns-else-count-eq0 c = rw (ne_eqb _ _ c.if-count-eq0.false)
