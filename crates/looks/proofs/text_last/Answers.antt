use mathlib.Core.Path.{◌≡◌}
use native.Mathlib.Omega.{arith}
use Rattle.looks.specs.Each.{each_none, each_more}
use Rattle.looks.proofs.text_last.Goals as goal

pub loop-i-init : goal.loop-i-init
loop-i-init c = (each_none _ _, omega arith)

pub loop-i-preserved : goal.loop-i-preserved
loop-i-preserved c =
    let l = c.loop-i in
    (each_more l.invariant.0 (record { within = omega arith; byte = c.goes_on.ensures c.if-not-goes_on.false }), omega arith)

pub returns : goal.returns
returns c =
    let e : c.max.result ≡ c.loop-i.i = omega arith in
    rw e c.loop-i.invariant.0
