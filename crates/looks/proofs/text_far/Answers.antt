use native.Mathlib.Omega.{arith}
use Rattle.looks.specs.Each.{each_none, each_then}
use Rattle.looks.proofs.text_far.Goals as goal

pub returns-then-d-lt8 : goal.returns-then-d-lt8
returns-then-d-lt8 c = each_none _ _

pub loop-i-init : goal.loop-i-init
loop-i-init c = (omega arith, omega arith, each_none _ _)

pub loop-i-preserved : goal.loop-i-preserved
loop-i-preserved c =
    let l = c.loop-i in
    (omega arith, omega arith, each_then l.invariant.2 (c.eight_on.ensures c.if-eight_on.true))

pub returns-else-eight_on : goal.returns-else-eight_on
returns-else-eight_on c = c.loop-i.invariant.2

pub returns : goal.returns
returns c = c.loop-i.invariant.2
