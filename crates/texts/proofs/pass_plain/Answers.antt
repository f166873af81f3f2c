use mathlib.Core.Path.{◌≡◌, ◌∙◌, sym, ap}
use Prim.Native.Nat.{ℕ, ◌+◌}
use native.Mathlib.Omega.{arith}
use native.Mathlib.Nat.{add_assoc}
use Rattle.scan.specs.rule.Text.{text}
use Rattle.marks.specs.declared.Inside.TheVariants.{Plain}
use Rattle.texts.specs.Measured.{measure_from}
use Rattle.texts.proofs.Measures.{measure_over}
use Rattle.texts.proofs.Shorts.{was_form}
use Rattle.texts.proofs.pass_plain.Goals as goal

pub loop-i-init : goal.loop-i-init
loop-i-init c = (λ k. let z : k ≡ k + 0 = omega arith in ap (λ (j : ℕ). measure_from Plain j (text _ _)) z, omega arith, λ h. h)

pub returns-then-e-i : goal.returns-then-e-i
returns-then-e-i c = let l = c.loop-i in
    record { same = l.invariant.0; onward = omega (arith, l.invariant.1); inside = l.invariant.2; few = l.invariant.1 }

-- a form that was passed
pub loop-i-smaller-then-marked : goal.loop-i-smaller-then-marked
loop-i-smaller-then-marked c = let s = (was_form c.form_end-e.ensures c.if-e-i.false).says in omega (arith, s.ahead, s.within)

pub loop-i-preserved-then-marked : goal.loop-i-preserved-then-marked
loop-i-preserved-then-marked c =
    let l = c.loop-i in
    let s = (was_form c.form_end-e.ensures c.if-e-i.false).says in (
      λ j. let z : j + (l.count + 1) ≡ j + l.count + 1 = omega arith in l.invariant.0 j ∙ s.counts (j + l.count) ∙ rw z,
      omega (arith, l.invariant.1, s.ahead),
      λ h. s.within,
    )

-- a byte that was passed
pub loop-i-preserved : goal.loop-i-preserved
loop-i-preserved c =
    let l = c.loop-i in
    let k = c.kept-count.ensures in (
      λ j. l.invariant.0 j
          ∙ measure_over _ _ c.loop-i-test.true _
          (sym c.marked.ensures ∙ c.if-marked.false)
          ∙ rw (sym k.0, add_assoc j),
      omega (arith, k.1),
      λ h. omega arith,
    )

pub returns : goal.returns
returns c = let l = c.loop-i in record {
  same = l.invariant.0;
  onward = omega (arith, l.invariant.1);
  inside = l.invariant.2;
  few = l.invariant.1;
}

pub form_end-e-requires : goal.form_end-e-requires
form_end-e-requires c = record {
  classes = c.requires;
  n_in_bounds = omega arith;
}

pub overflow_add-count : goal.overflow_add-count
overflow_add-count c = omega (arith, c.loop-i.invariant.1)

pub overflow_add-count-else-marked : goal.overflow_add-count-else-marked
overflow_add-count-else-marked c = omega (arith, c.loop-i.invariant.1, c.kept-count.ensures.1)
