-- `field_values::cap` meets its contract.
use native.Mathlib.Omega.{arith}
use Rattle.field_values.specs.rule.Read.{capped}
use Rattle.field_values.proofs.cap.Goals as goal

pub returns-then-n-le1000000000000000 : goal.returns-then-n-le1000000000000000
unfolding capped
returns-then-n-le1000000000000000 c = omega (arith, c.if-n-le1000000000000000.true)

pub returns-else-n-le1000000000000000 : goal.returns-else-n-le1000000000000000
unfolding capped
returns-else-n-le1000000000000000 c = omega (arith, c.if-n-le1000000000000000.false)
