use native.Mathlib.Omega.{arith}
use Rattle.import_lines.specs.Undoubled.{undoubling_none, undoubling_long, undoubling_more, undoubling_all}
use Rattle.import_lines.proofs.undouble.Goals as goal

pub loop-i-init : goal.loop-i-init
loop-i-init c = undoubling_none _ _

pub returns-then-n-ge50000 : goal.returns-then-n-ge50000
returns-then-n-ge50000 c = undoubling_long c.loop-i.invariant (omega arith) c.loop-i-test.true c.if-n-ge50000.true

pub loop-i-preserved : goal.loop-i-preserved
loop-i-preserved c =
    rw c.stride_of-i.ensures.0 (undoubling_more c.loop-i.invariant (omega arith) c.loop-i-test.true
    (omega (arith, c.if-n-ge50000.false)))

pub loop-i-smaller : goal.loop-i-smaller
loop-i-smaller c = omega (arith, c.loop-i-test.true, c.stride_of-i.ensures.1)

pub returns : goal.returns
returns c = (c.loop-i.invariant.few, undoubling_all c.loop-i.invariant (omega arith) c.loop-i-test.false)

pub overflow_add-i : goal.overflow_add-i
overflow_add-i c = omega (arith, c.loop-i-test.true, c.stride_of-i.ensures.2)
