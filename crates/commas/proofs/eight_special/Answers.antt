use mathlib.Core.Path.{◌≡◌}
use native.Mathlib.Nat.{add-zero}
use native.Mathlib.Omega.{arith}
use Rattle.commas.specs.Csv.{eight_step}
use Rattle.commas.proofs.eight_special.Goals as goal

pub loop-k-preserved : goal.loop-k-preserved
loop-k-preserved c =
    let l = c.loop-k in
    let a = c.args in
    eight_step a.s.now a.i l.k l.some c.special-some.result _ (omega arith) c.special-some.ensures l.invariant

pub returns : goal.returns
returns c =
    let l = c.loop-k in
    let q : l.k ≡ 8 = omega arith in
    rw q at l.invariant

pub loop-k-init : goal.loop-k-init
loop-k-init c = rw add-zero
