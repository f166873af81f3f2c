-- `summary::higher` meets its contract: each arm returns what the definition picks where the test is as the arm found it.
-- Assumes nothing.
use Rattle.summary.specs.rule.Summary.{higher_of}
use Rattle.summary.proofs.higher.Goals as goal

pub returns-then-a-x : goal.returns-then-a-x
unfolding higher_of
returns-then-a-x c = rw c.if-a-x.true

pub returns-else-a-x : goal.returns-else-a-x
unfolding higher_of
returns-else-a-x c = rw c.if-a-x.false
