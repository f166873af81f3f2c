use borrow.Author.Tests.{eq-eqb, ne_eqb}
use Rattle.tags.specs.rule.Tag.{is_named}
use Rattle.tags.proofs.is_named.Goals as goal

pub returns-then-e-n : goal.returns-then-e-n
unfolding is_named
returns-then-e-n c = rw (eq-eqb _ _ c.if-e-n.true) c.is_there.ensures

pub returns : goal.returns
unfolding is_named
returns c = rw (ne_eqb _ _ c.if-e-n.false)
