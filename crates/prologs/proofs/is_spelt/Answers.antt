use borrow.Author.Tests.{eq-eqb, ne_eqb}
use Rattle.prologs.specs.rule.Told.{spelt_of}
use Rattle.prologs.proofs.is_spelt.Goals as goal

pub returns-then-e-v : goal.returns-then-e-v
unfolding spelt_of
returns-then-e-v c = rw (eq-eqb _ _ c.if-e-v.true) c.is_there.ensures

pub returns : goal.returns
unfolding spelt_of
returns c = rw (ne_eqb _ _ c.if-e-v.false)
