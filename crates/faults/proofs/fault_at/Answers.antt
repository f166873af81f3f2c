-- `faults::fault_at` meets its contract: a point fault, or a stray.
use Rattle.faults.specs.rule.Fault.{fault_at}
use Rattle.faults.proofs.fault_at.Goals as goal

pub returns-then-quantity-at_point : goal.returns-then-quantity-at_point
unfolding fault_at
returns-then-quantity-at_point c = rw (rw c.at_point.ensures at c.if-quantity-at_point.true)

pub returns : goal.returns
unfolding fault_at
returns c = rw (rw c.at_point.ensures at c.if-quantity-at_point.false)
