-- `faults::fixed` meets its contract: the tail, and the digit before it but under code 2.
use native.Mathlib.Omega.{arith}
use borrow.Author.Tests.{eq-eqb, ne_eqb}
use Rattle.widths.specs.rule.Width.{least_whole}
use Rattle.widths.specs.Width.{tail_few}
use Rattle.faults.specs.rule.Fault.{fixed_of}
use Rattle.faults.proofs.fixed.Goals as goal

pub returns-then-f-eq2 : goal.returns-then-f-eq2
unfolding fixed_of least_whole
returns-then-f-eq2 c = rw (c.tail-tail.ensures, eq-eqb _ _ c.if-f-eq2.true) (omega arith)

pub overflow_add-result : goal.overflow_add-result
overflow_add-result c = omega (
  arith,
  c.tail-tail.ensures,
  tail_few c.args.f c.requires,
)

pub returns : goal.returns
unfolding fixed_of least_whole
returns c = rw (c.tail-tail.ensures, ne_eqb _ _ c.if-f-eq2.false)
