-- `summary::lower` meets its contract: each arm returns what the definition picks where the test is as the arm found it.
-- Assumes nothing.
use Rattle.summary.specs.rule.Summary.{lower_of}
use Rattle.summary.proofs.lower.Goals as goal

pub returns-then-x-a : goal.returns-then-x-a
unfolding lower_of
returns-then-x-a c = rw c.if-x-a.true

pub returns-else-x-a : goal.returns-else-x-a
unfolding lower_of
returns-else-x-a c = rw c.if-x-a.false
