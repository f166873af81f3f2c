use native.Mathlib.Omega.{arith}
use Rattle.looks.specs.Each.{each_none, each_more}
use Rattle.looks.proofs.text_near.Goals as goal

pub loop-j-init : goal.loop-j-init
loop-j-init c = each_none _ _

pub loop-j-preserved : goal.loop-j-preserved
loop-j-preserved c = each_more c.loop-j.invariant (record { within = omega arith; byte = c.goes_on.ensures c.if-not-goes_on.false })
