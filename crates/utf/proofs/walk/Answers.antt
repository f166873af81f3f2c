use mathlib.Core.Path.{refl, sym, ◌∙◌}
use lib.ListN.{drop, length-drop}
use native.Mathlib.Omega.{arith}
use Rattle.utf.proofs.Strides.{positive, width_within, bad_next}
use Rattle.utf.proofs.walk.Goals as goal

pub loop-k-init : goal.loop-k-init
loop-k-init c = (refl, omega arith, omega arith)

pub returns-then-d-i : goal.returns-then-d-i
returns-then-d-i c =
    let l = c.loop-k in
    record { again = l.invariant.0; on = omega arith; within = l.invariant.2; over = λ e. absurd (omega arith) }

pub returns-then-w-eq0 : goal.returns-then-w-eq0
returns-then-w-eq0 c =
    let l = c.loop-k in
    let z = sym c.width-w.ensures ∙ c.if-w-eq0.true in
    record { again = l.invariant.0; on = omega arith; within = l.invariant.2; over = λ e. rw (← e) z }

pub overflow_add-i : goal.overflow_add-i
overflow_add-i c =
    let args = c.args in
    let d = args.d.now in
    let i = c.loop-k.i in
    let w = c.width-w.ensures in
    omega (arith, width_within args.latin (drop i d), length-drop i d)

pub loop-k-preserved : goal.loop-k-preserved
loop-k-preserved c =
    let a = c.args in
    let i = c.loop-k.i in
    let w = c.width-w.ensures in
    let m = positive c.width-w.result c.if-w-eq0.false in
    let b = bad_next a.latin a.d.now i (λ z. c.if-w-eq0.false (w ∙ z)) in (
      c.loop-k.invariant.0 ∙ rw (← w) at b,
      omega arith,
      omega (arith, width_within a.latin (drop i a.d.now), length-drop i a.d.now),
    )

pub returns : goal.returns
returns c =
    let l = c.loop-k in
    record { again = l.invariant.0; on = omega arith; within = l.invariant.2; over = λ e. absurd (omega arith) }
