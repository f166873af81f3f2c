use mathlib.Core.Path.{refl, ◌∙◌, sym}
use native.Mathlib.Omega.{arith}
use Rattle.texts.specs.Measured.{paced_of}
use Rattle.texts.proofs.Measures.{paced}
use Rattle.texts.proofs.measure.Goals as goal

pub overflow_add-count : goal.overflow_add-count
overflow_add-count c = let l = c.loop-k in let p = c.pass-run.ensures in omega (arith, p.few, p.inside l.invariant.2)

pub overflow_add-count-in-On : goal.overflow_add-count-in-On
overflow_add-count-in-On c =
    let l = c.loop-k in
    let p = c.pass-run.ensures in
    let s = c.step.ensures.onwards c.in-On.is in
    omega (arith, p.few, p.inside l.invariant.2, s.2)

pub loop-k-smaller : goal.loop-k-smaller
loop-k-smaller c =
    let s = c.step.ensures.onwards c.in-On.is in
    omega (arith, s.0, s.1, c.pass-run.ensures.onward)

pub loop-k-preserved : goal.loop-k-preserved
unfolding paced_of
loop-k-preserved c =
    let l = c.loop-k in
    let p = c.pass-run.ensures in
    let q = c.step.ensures in
    let s = q.onwards c.in-On.is in
    (l.invariant.0 ∙ p.same _ ∙ paced q c.in-On.is _, omega (arith, p.few, s.0, s.2), s.1)

pub returns-in-Wrong : goal.returns-in-Wrong
unfolding paced_of
returns-in-Wrong c = sym (c.loop-k.invariant.0 ∙ c.pass-run.ensures.same _
    ∙ paced c.step.ensures c.in-Wrong.is _)

pub returns-in-Over : goal.returns-in-Over
unfolding paced_of
returns-in-Over c =
    c.ended.ensures
    ∙ sym (c.loop-k.invariant.0
    ∙ c.pass-run.ensures.same _
    ∙ paced c.step.ensures c.in-Over.is _)

pub loop-k-init : goal.loop-k-init
loop-k-init c = (refl, omega arith, c.requires.at_in_bounds)

pub pass-run-requires : goal.pass-run-requires
pass-run-requires c = c.requires.classes

pub step-requires : goal.step-requires
step-requires c = c.requires.classes
