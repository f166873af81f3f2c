-- Bytes that say themselves are passed by steps, whatever the text; and what a step behind them comes to.
use mathlib.Core.Path.{◌≡◌, refl, ◌∙◌}
use mathlib.Core.Bool.{Bool, true, false, not, ◌&&◌}
use mathlib.Core.List.{List}
use Prim.Native.Nat.{ℕ, zero, suc, ◌+◌, ◌≤◌, ◌<◌}
use native.Mathlib.Omega.{arith}
use lib.Dec.{eqb}
use lib.ListN.{length, get_or}
use borrow.Author.Tests.{eqb-false}
use Rattle.below.specs.rule.Below.{all_below}
use Rattle.below.specs.Below.{and_left, and_right}
use Rattle.contents.specs.rule.Step.{step_of}
use Rattle.contents.specs.rule.Content.{content_from}
use Rattle.contents.specs.declared.Going.{Going}
use Rattle.contents.specs.declared.Said.{Said}
use Rattle.contents.specs.declared.Content.{Content}
use Rattle.contents.specs.declared.Step.{Step}
use Rattle.contents.specs.declared.Step.TheVariants.{More, Over}
use Rattle.contents.specs.Pass.{plain_of, all_plain, Passes, Strides, more, over}
use Rattle.contents.proofs.Goes.{step_on, content_next, content_over}
use Rattle.contents.proofs.Pieces.{stand, step_byte}

-- what is not the byte
apart : (b c : ℕ) → not (eqb b c) ≡ true → eqb b c ≡ false
apart b c e = by (eqb b c) refl e where
  by : (q : Bool) → eqb b c ≡ q → not q ≡ true → eqb b c ≡ false
  by true f e = let z : ◌≡◌ {A = ℕ} 0 1 = cc in absurd (omega arith)
  by false f e = f

pub passes_none : (d : List ℕ) (p : ℕ) → p ≤ length d → Passes d p p
passes_none d p h = record { again = λ bad m w i u. refl; on = omega arith; within = h }

pub passes_next : (d : List ℕ) (p i : ℕ) → Passes d p i → i < length d → plain_of (get_or d i 0) ≡ true → Passes d p (i + 1)
unfolding plain_of
passes_next d p i x h e =
    let b = get_or d i 0 in
    let e60 = apart b 60 (and_left (not (eqb b 60)) _ e) in
    let r = and_right (not (eqb b 60)) (not (eqb b 38) && (not (eqb b 93) && not (eqb b 13))) e in
    let e38 = apart b 38 (and_left (not (eqb b 38)) _ r) in
    let s = and_right (not (eqb b 38)) (not (eqb b 93) && not (eqb b 13)) r in
    let e93 = apart b 93 (and_left (not (eqb b 93)) _ s) in
    let e13 = apart b 13 (and_right (not (eqb b 93)) (not (eqb b 13)) s) in
    let on = x.on in
    record {
      again = λ bad m w a u.
          x.again bad m w a u
          ∙ content_next bad d m w (stand a u i) (stand a u (i + 1)) _
          (step_byte false bad d m w (stand a u i) b h refl (eqb-false b 38 e38) (eqb-false b 60 e60) (eqb-false b 13 e13) e93);
      on = omega arith;
      within = omega arith;
    }

-- some at once
pub passes_wide : (d : List ℕ) (p i n : ℕ) → Passes d p i → i + n ≤ length d → all_plain d i n ≡ true → Passes d p (i + n)
unfolding all_plain all_below
passes_wide d p i zero x h e = let q : i + 0 ≡ i = omega arith in rw q x
passes_wide d p i (suc n) x h e =
    let q : i + suc n ≡ i + n + 1 = omega arith in
    let f = all_below n (λ k. plain_of (get_or d (i + k) 0)) in
    rw q (passes_next d p (i + n) (passes_wide d p i n x (omega arith) (and_left f _ e)) (omega arith) (and_right f _ e))

-- a step behind what was passed
pub strides : (bad : Bool) (d : List ℕ) (m : ℕ) (w : List ℕ) (g : Going) (p : ℕ) (r : Step) → content_from bad d m w g
    ≡ content_from bad d m w (stand g.inside g.unknown p)
    → g.next ≤ p → step_of bad d m w (stand g.inside g.unknown p) ≡ r → Strides bad d m w g r
strides bad d m w g p (More h s) x a e =
    let k = stand g.inside g.unknown p in
    let o = step_on bad d m w k h s e in
    more (x ∙ content_next bad d m w k h s e) (omega (arith, o.0)) o.1
strides bad d m w g p (Over c) x a e = over (x ∙ content_over bad d m w (stand g.inside g.unknown p) c e)

-- what the stride's answer tells
pub more_same : {bad : Bool} {d : List ℕ} {m : ℕ} {w : List ℕ} {g h : Going} {s : Said} {r : Step} → r ≡ More h s → Strides bad d m w g r
    → content_from bad d m w g ≡ content_from bad d m w h
more_same {h = h} e (more {h = k} x y z) = let q : k ≡ h = cc in rw (← q) x
more_same e (over x) = let z : ◌≡◌ {A = ℕ} 0 1 = cc in absurd (omega arith)

pub more_on : {bad : Bool} {d : List ℕ} {m : ℕ} {w : List ℕ} {g h : Going} {s : Said} {r : Step} → r ≡ More h s → Strides bad d m w g r
    → g.next < h.next
more_on {h = h} e (more {h = k} x y z) = let q : k ≡ h = cc in rw (← q) y
more_on e (over x) = let z : ◌≡◌ {A = ℕ} 0 1 = cc in absurd (omega arith)

pub more_within : {bad : Bool} {d : List ℕ} {m : ℕ} {w : List ℕ} {g h : Going} {s : Said} {r : Step} → r ≡ More h s → Strides bad d m w g r
    → h.next ≤ length d
more_within {h = h} e (more {h = k} x y z) = let q : k ≡ h = cc in rw (← q) z
more_within e (over x) = let z : ◌≡◌ {A = ℕ} 0 1 = cc in absurd (omega arith)

pub over_is : {bad : Bool} {d : List ℕ} {m : ℕ} {w : List ℕ} {g : Going} {c : Content} {r : Step} → r ≡ Over c → Strides bad d m w g r
    → content_from bad d m w g ≡ c
over_is e (more x y z) = let z : ◌≡◌ {A = ℕ} 0 1 = cc in absurd (omega arith)
over_is {c = c} e (over {c = k} x) = let q : k ≡ c = cc in x ∙ q
