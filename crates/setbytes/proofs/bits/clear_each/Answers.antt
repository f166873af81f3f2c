use mathlib.Core.Path.{refl, sym, ◌∙◌}
use mathlib.Core.Bool.{false}
use mathlib.Core.List.{[]}
use Prim.Native.Nat.{◌+◌, ◌-◌}
use native.Mathlib.Nat.{sub-zero}
use Rattle.fieldlaws.specs.RisingLaws.{rising_empty}
use Rattle.sets.specs.Full.{always}
use Rattle.setbytes.specs.Sets.{head_is}
use Rattle.setbytes.proofs.BitSteps.{taken, done}
use Rattle.setbytes.proofs.bits.clear_each.Goals as goal

pub loop-i-preserved : goal.loop-i-preserved
unfolding head_is
loop-i-preserved c =
    let l = c.loop-i in
    let a = c.args in
    taken always a.at a.w l.bytes l.i c.loop-i-test.true [] 0 false refl
    (record { rising = rising_empty (l.i + 1) (a.w - l.i) }) refl ∙ l.invariant

pub returns : goal.returns
returns c = sym (done _ _ _ _ _ _ c.loop-i-test.false) ∙ c.loop-i.invariant

pub loop-i-init : goal.loop-i-init
loop-i-init c = rw sub-zero
