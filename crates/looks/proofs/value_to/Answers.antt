use mathlib.Core.Path.{◌≡◌, sym, ◌∙◌}
use native.Mathlib.Omega.{arith}
use Rattle.looks.specs.Each.{each_none, each_more}
use Rattle.looks.proofs.value_to.Goals as goal

pub loop-i-init : goal.loop-i-init
loop-i-init c = (each_none _ _, omega arith)

pub loop-i-preserved : goal.loop-i-preserved
loop-i-preserved c =
    let l = c.loop-i in
    (each_more l.invariant.0 (record { within = omega arith; is = sym c.of_value.ensures ∙ c.if-not-of_value.false }), omega arith)

pub returns : goal.returns
returns c =
    let e : c.max.result ≡ c.loop-i.i = omega arith in
    rw e c.loop-i.invariant.0
