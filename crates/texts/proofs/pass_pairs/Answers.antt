use mathlib.Core.Path.{◌≡◌, ◌∙◌, sym, ap}
use Prim.Native.Nat.{ℕ, ◌+◌}
use native.Mathlib.Omega.{arith}
use Rattle.scan.specs.rule.Text.{text}
use Rattle.marks.specs.declared.Inside.TheVariants.{Pair}
use Rattle.texts.specs.Measured.{measure_from}
use Rattle.texts.proofs.Shorts.{pair_step}
use Rattle.texts.proofs.pass_pairs.Goals as goal

pub loop-i-init : goal.loop-i-init
loop-i-init c = (λ k. let z : k ≡ k + 0 = omega arith in ap (λ (j : ℕ). measure_from (Pair _) j (text _ _)) z, omega arith, λ h. h)

pub returns-then-s-i-lt2 : goal.returns-then-s-i-lt2
returns-then-s-i-lt2 c = let l = c.loop-i in record
    { same = l.invariant.0; onward = omega (arith, l.invariant.1); inside = l.invariant.2; few = l.invariant.1 }

pub returns-then-not-is_hex : goal.returns-then-not-is_hex
returns-then-not-is_hex c = let l = c.loop-i in
    record { same = l.invariant.0; onward = omega (arith, l.invariant.1); inside = l.invariant.2; few = l.invariant.1 }

pub returns-then-not-is_hex-2 : goal.returns-then-not-is_hex-2
returns-then-not-is_hex-2 c = let l = c.loop-i in
    record { same = l.invariant.0; onward = omega (arith, l.invariant.1); inside = l.invariant.2; few = l.invariant.1 }

pub loop-i-preserved : goal.loop-i-preserved
loop-i-preserved c =
    let l = c.loop-i in
    let a = c.args in
    let p = pair_step a.s.now a.o l.i (omega arith) (sym c.is_hex.ensures ∙ c.if-not-is_hex.false)
    (sym c.is_hex-in-loop-i.ensures ∙ c.if-not-is_hex-2.false) in (
      λ j. let z : j + (l.count + 1) ≡ j + l.count + 1 = omega arith in l.invariant.0 j ∙ p.counts (j + l.count) ∙ rw z,
      omega (arith, l.invariant.1),
      λ h. p.within,
    )

pub returns : goal.returns
returns c = let l = c.loop-i in record {
  same = l.invariant.0;
  onward = omega (arith, l.invariant.1);
  inside = l.invariant.2;
  few = l.invariant.1;
}

pub is_hex-requires : goal.is_hex-requires
is_hex-requires c = c.requires

pub is_hex-requires-in-loop-i : goal.is_hex-requires-in-loop-i
is_hex-requires-in-loop-i c = c.requires

pub overflow_add-count : goal.overflow_add-count
overflow_add-count c = omega (arith, c.loop-i.invariant.1)
