use mathlib.Core.Path.{refl, ◌∙◌}
use native.Mathlib.Nat.{add-zero}
use native.Mathlib.Omega.{arith}
use Rattle.sink.proofs.store_fours.Goals as goal

pub loop-i-preserved : goal.loop-i-preserved
loop-i-preserved c =
    let l = c.loop-i in (
      omega (arith, c.loop-i-test.true),
      c.store_four.auto.out ∙ l.invariant.1,
      c.store_four.ensures ∙ l.invariant.2,
    )

pub returns : goal.returns
returns c = let l = c.loop-i in (l.invariant.0, omega (arith, c.loop-i-test.false), l.invariant.2)

pub loop-i-init : goal.loop-i-init
loop-i-init c = (omega arith, refl, rw add-zero)

pub shape_of-out : goal.shape_of-out
shape_of-out c = c.loop-i.invariant.1
