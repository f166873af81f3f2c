use mathlib.Core.Path.{refl, ◌∙◌, sym}
use Prim.Native.Nat.{◌<◌}
use native.Mathlib.Omega.{arith}
use Rattle.below.specs.Below.{holds_not}
use Rattle.names.proofs.Keys.{key_next, key_done, key_room}
use Rattle.names.proofs.Plains.{plain_over, plain_sign}
use Rattle.names.proofs.plain_key.Goals as goal

pub returns-then-b-eq34 : goal.returns-then-b-eq34
returns-then-b-eq34 c e = sym (c.loop-n.invariant.0 ∙ key_done _ _ (plain_over _ _ (omega arith) c.if-b-eq34.true))

pub overflow_mul-key : goal.overflow_mul-key
overflow_mul-key c =
    let l = c.loop-n in
    let h : l.count < 8 = omega (arith, l.invariant.1) in
    omega (arith, (key_room l.count l.key 0 h l.invariant.2 (omega arith)).1)

pub overflow_add-key : goal.overflow_add-key
overflow_add-key c =
    let l = c.loop-n in
    let h : l.count < 8 = omega (arith, l.invariant.1) in
    omega (arith, (key_room l.count l.key c.from.result h l.invariant.2 (omega arith)).1)

pub loop-n-preserved : goal.loop-n-preserved
loop-n-preserved c =
    let l = c.loop-n in
    let h : l.count < 8 = omega (arith, l.invariant.1) in
    let f = sym c.may_stand.ensures ∙ c.if-not-may_stand.false in (
      l.invariant.0
          ∙ key_next _ _ (plain_sign _ _ (omega arith) l.count f c.if-b-eq34.false) f h
          ∙ rw (sym c.upper.ensures, sym c.from.ensures),
      omega arith,
      (key_room l.count l.key c.from.result h l.invariant.2 (omega arith)).0,
    )

pub returns-then-count-eq8 : goal.returns-then-count-eq8
returns-then-count-eq8 c e = holds_not e refl

pub returns-then-not-may_stand : goal.returns-then-not-may_stand
returns-then-not-may_stand c e = holds_not e refl

pub returns : goal.returns
returns c e = holds_not e refl
