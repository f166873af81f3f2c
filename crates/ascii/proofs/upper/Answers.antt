use Rattle.ascii.specs.rule.Class.{upper_of}
use borrow.Author.Tests.{lt-ltb, le-ltb, le-leb, lt-leb}
use Rattle.ascii.proofs.upper.Goals as goal

pub returns-then-b-lt97 : goal.returns-then-b-lt97
unfolding upper_of
returns-then-b-lt97 c = simp (lt-ltb _ _ c.if-b-lt97.true)

pub returns-then-b-le122 : goal.returns-then-b-le122
unfolding upper_of
returns-then-b-le122 c = simp (le-ltb _ _ c.if-b-lt97.false, le-leb _ _ c.if-b-le122.true)

pub returns-else-b-le122 : goal.returns-else-b-le122
unfolding upper_of
returns-else-b-le122 c = simp (le-ltb _ _ c.if-b-lt97.false, lt-leb _ _ c.if-b-le122.false)
