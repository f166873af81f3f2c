use Rattle.scan.specs.Order.{is_less}
use Rattle.amounts.proofs.is_less.Goals as goal

pub returns-in-Less : goal.returns-in-Less
unfolding is_less
returns-in-Less c = rw c.in-Less.is

pub returns-in-Same : goal.returns-in-Same
unfolding is_less
returns-in-Same c = rw c.in-Same.is

pub returns-in-More : goal.returns-in-More
unfolding is_less
returns-in-More c = rw c.in-More.is
