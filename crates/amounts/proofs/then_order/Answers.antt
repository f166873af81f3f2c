use borrow.Author.Tests.{lt-ltb, le-ltb}
use Rattle.scan.specs.Order.{order_then}
use Rattle.amounts.proofs.then_order.Goals as goal

pub returns-then-x-y : goal.returns-then-x-y
unfolding order_then
returns-then-x-y c = rw (c.in-Same.is, lt-ltb _ _ c.if-x-y.true)

pub returns-in-Less : goal.returns-in-Less
unfolding order_then
returns-in-Less c = rw c.in-Less.is

pub returns-then-y-x : goal.returns-then-y-x
unfolding order_then
returns-then-y-x c = rw (c.in-Same.is, le-ltb _ _ c.if-x-y.false, lt-ltb _ _ c.if-y-x.true)

pub returns-else-y-x : goal.returns-else-y-x
unfolding order_then
returns-else-y-x c = rw (c.in-Same.is, le-ltb _ _ c.if-x-y.false, le-ltb _ _ c.if-y-x.false)

pub returns-in-More : goal.returns-in-More
unfolding order_then
returns-in-More c = rw c.in-More.is
