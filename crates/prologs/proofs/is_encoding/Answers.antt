use borrow.Author.Tests.{eq-eqb, ne_eqb}
use Rattle.prologs.specs.rule.Told.{alike_of}
use Rattle.prologs.proofs.is_encoding.Goals as goal

pub returns-then-e-v : goal.returns-then-e-v
unfolding alike_of
returns-then-e-v c = rw (eq-eqb _ _ c.if-e-v.true) c.is_alike.ensures

pub returns : goal.returns
unfolding alike_of
returns c = rw (ne_eqb _ _ c.if-e-v.false)
