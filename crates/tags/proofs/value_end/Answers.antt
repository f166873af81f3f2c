use mathlib.Core.Path.{refl}
use native.Mathlib.Omega.{arith}
use Rattle.tags.proofs.Usuals.{passing_none, passing_next, passing_over}
use Rattle.tags.proofs.value_end.Goals as goal

pub loop-i-init : goal.loop-i-init
loop-i-init c = passing_none _ _ (omega arith)

pub returns-then-b-eq34 : goal.returns-then-b-eq34
returns-then-b-eq34 c e = passing_over _ _ _ c.loop-i.invariant c.loop-i-test.true c.if-b-eq34.true

pub loop-i-preserved : goal.loop-i-preserved
loop-i-preserved c =
    let l = c.loop-i in
    passing_next _ _ l.i _ l.invariant c.loop-i-test.true refl c.if-b-eq34.false
    c.if-b-eq60.false c.if-b-eq38.false

pub returns-then-b-eq60 : goal.returns-then-b-eq60
returns-then-b-eq60 c e = absurd (e refl)

pub returns-then-b-eq38 : goal.returns-then-b-eq38
returns-then-b-eq38 c e = absurd (e refl)

pub returns : goal.returns
returns c e = absurd (e refl)
