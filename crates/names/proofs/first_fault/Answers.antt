use mathlib.Core.Path.{◌≡◌, refl, ◌∙◌, sym, ap}
use mathlib.Core.Bool.{false}
use Prim.Native.Nat.{ℕ, ◌-◌}
use native.Mathlib.Omega.{arith}
use lib.Dec.{eqb}
use lib.ListN.{get_or, length-set}
use Rattle.below.specs.rule.Below.{any_below}
use Rattle.names.specs.Clash.{fault_from, fault_of}
use Rattle.names.proofs.Clashes.{fault_here, fault_on, fault_none, wrong_zero, wrong_pair, wrong_not, none_more, place_of}
use Rattle.names.proofs.Clashes.{held, marked_more}
use Rattle.names.proofs.first_fault.Goals as goal

pub loop-j-init : goal.loop-j-init
unfolding fault_of
loop-j-init c =
    let e : c.args.count ≡ c.args.count - 0 = omega arith in
    (ap (λ (n : ℕ). fault_from c.args.keys.now n 0) e, refl, record { left = λ i h. absurd (omega arith) })

pub loop-i-init : goal.loop-i-init
unfolding place_of
loop-i-init c =
    let v = c.loop-j in
    let h = held c.args.keys.now v.marks v.j v.invariant.2 in
    rw c.held_from-i.ensures h.1

pub loop-i-preserved : goal.loop-i-preserved
loop-i-preserved c =
    let keys = c.args.keys.now in
    none_more keys (get_or keys c.loop-j.j 0) c.loop-i.i c.loop-i.invariant c.if-keys-i.false

pub loop-j-preserved : goal.loop-j-preserved
unfolding place_of
loop-j-preserved c =
    let keys = c.args.keys.now in
    let v = c.loop-j in
    let h = held keys v.marks v.j v.invariant.2 in
    let e : c.loop-i.i ≡ v.j = omega arith in
    let n : any_below v.j (λ i. eqb (get_or keys i 0) (get_or keys v.j 0)) ≡ false = rw e at c.loop-i.invariant in (
      v.invariant.0 ∙ fault_on keys c.args.count v.j
          c.loop-j-test.true (wrong_not keys v.j c.if-key-eq0.false n),
      simp length-set v.invariant.1,
      marked_more keys v.marks v.j v.invariant.2 v.invariant.1,
    )

pub returns : goal.returns
returns c =
    let e : c.loop-j.j ≡ c.args.count = omega arith in
    sym e ∙ sym (c.loop-j.invariant.0
    ∙ fault_none c.args.keys.now c.args.count c.loop-j.j c.loop-j-test.false)

pub returns-then-key-eq0 : goal.returns-then-key-eq0
returns-then-key-eq0 c = sym (c.loop-j.invariant.0
    ∙ fault_here _ _ _ c.loop-j-test.true (wrong_zero _ _ c.if-key-eq0.true))

pub returns-then-keys-i : goal.returns-then-keys-i
returns-then-keys-i c =
    sym (c.loop-j.invariant.0
    ∙ fault_here _ _ _ c.loop-j-test.true
    (wrong_pair _ _ c.loop-i.i c.loop-i-test.true c.if-keys-i.true))
