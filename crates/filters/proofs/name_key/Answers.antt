use mathlib.Core.Path.{◌≡◌, ◌∙◌, sym}
use mathlib.Core.List.{List, ◌∷◌}
use Prim.Native.Nat.{◌<◌}
use native.Mathlib.Omega.{arith}
use Rattle.signs.specs.declared.Sign.{Sign}
use Rattle.names.proofs.Keys.{key_bad, key_long, key_next, key_break, key_done, key_room}
use Rattle.stretches.proofs.Outcomes.{begins, told_one, told_over}
use Rattle.filters.proofs.name_key.Goals as goal

-- a sign that was said, and which it is
told : {l t : List Sign} {x y : Sign} → l ≡ x ∷ t → x ≡ y → l ≡ y ∷ t
told e f = rw (← f) e

pub loop-count-init : goal.loop-count-init
loop-count-init c =
    let a = c.args in
    let x = begins a.latin a.d.now a.at c.start_at-c.result c.start_at-c.ensures c.requires.at_in_bounds in
    (rw x.signs, omega arith, omega arith, record { next = x.next; small = x.small })

pub next_sign-requires : goal.next_sign-requires
next_sign-requires c = let r = c.loop-count.invariant.3 in (r.next, r.small)

pub may_stand-requires : goal.may_stand-requires
may_stand-requires c = c.requires.classes

pub returns-then-not-may_stand : goal.returns-then-not-may_stand
returns-then-not-may_stand c =
    let s = told_one _ _ c.next_sign.ensures c.in-One.is in
    sym (c.loop-count.invariant.0 ∙ key_bad _ _ (told s.split c.in-Byte.is)
    (sym c.may_stand.ensures ∙ c.if-not-may_stand.true))

pub returns-then-count-eq8 : goal.returns-then-count-eq8
returns-then-count-eq8 c =
    let s = told_one _ _ c.next_sign.ensures c.in-One.is in
    sym (c.loop-count.invariant.0 ∙ key_long _ _ (told s.split c.in-Byte.is)
    (sym c.may_stand.ensures ∙ c.if-not-may_stand.false) c.if-count-eq8.true)

pub overflow_mul-key : goal.overflow_mul-key
overflow_mul-key c =
    let l = c.loop-count in
    let h : l.count < 8 = omega arith in
    omega (arith, (key_room l.count l.key 0 h l.invariant.2 (omega arith)).1)

pub overflow_add-key : goal.overflow_add-key
overflow_add-key c =
    let l = c.loop-count in
    let h : l.count < 8 = omega arith in
    omega (arith, (key_room l.count l.key c.upper.result h l.invariant.2 (omega arith)).1)

pub loop-count-preserved : goal.loop-count-preserved
loop-count-preserved c =
    let l = c.loop-count in
    let h : l.count < 8 = omega arith in
    let s = told_one _ _ c.next_sign.ensures
    c.in-One.is in (
      l.invariant.0
          ∙ key_next _ _ (told s.split c.in-Byte.is)
          (sym c.may_stand.ensures ∙ c.if-not-may_stand.false) h
          ∙ rw (sym c.upper.ensures),
      omega arith,
      (key_room l.count l.key c.upper.result h l.invariant.2 (omega arith)).0,
      record { next = s.next; small = s.small },
    )

pub returns-in-Break : goal.returns-in-Break
returns-in-Break c =
    let s = told_one _ _ c.next_sign.ensures c.in-One.is in
    sym (c.loop-count.invariant.0 ∙ key_break _ _ (told s.split c.in-Break.is))

pub returns-in-Over : goal.returns-in-Over
returns-in-Over c = sym (c.loop-count.invariant.0
    ∙ key_done _ _ (told_over c.next_sign.ensures c.in-Over.is))

pub returns : goal.returns
returns c = absurd (omega arith)
