-- What is left to read at a place: nothing, what is left one place on, or a byte and that.
use mathlib.Core.Path.{◌≡◌, refl, ap, ◌∙◌, sym}
use mathlib.Core.List.{List, [], ◌∷◌}
use mathlib.Core.Bool.{Bool, cond, true, false, ◌||◌}
use Prim.Native.Nat.{ℕ, zero, suc, ◌+◌, ◌≤◌, ◌<◌}
use native.Mathlib.Numerals.{add-one}
use native.Mathlib.Omega.{arith}
use lib.Dec.{eqb}
use lib.ListN.{length, get_or, drop, drop_of_length-le}
use lib.Seq.{drop-cons, drop-nil}
use borrow.Author.Tests.{eq-eqb, ne_eqb, le-ltb}
use Rattle.ascii.specs.rule.Class.{class_of, within}
use Rattle.scan.specs.rule.Text.{Text, stop, sign, kept, text, place_of}
use Rattle.scan.specs.Text.{step_of}
use Rattle.scan.specs.declared.Step.{Step}
use Rattle.scan.specs.declared.Step.TheVariants.{Byte, End}

module _ (d : List ℕ) (at : ℕ) where
  pub text_end : length d ≤ at → text d at ≡ stop at
  unfolding text kept
  text_end h = rw (drop_of_length-le d h)

  pub text_dropped : at < length d → class_of (get_or d at 0) ≡ 0 → text d at ≡ text d (at + 1)
  unfolding text kept
  text_dropped h e = rw (drop-cons d at 0 h, eq-eqb _ _ e, add-one at)

  pub text_kept : at < length d → (class_of (get_or d at 0) ≡ 0 → ⊥) → text d at ≡ sign at (get_or d at 0) (text d (at + 1))
  unfolding text kept
  text_kept h e = rw (drop-cons d at 0 h, ne_eqb _ _ e, add-one at)

-- ---- a byte of 32 or above is kept
pub kept_byte : (b : ℕ) → 32 ≤ b → class_of b ≡ 0 → ⊥
unfolding class_of
kept_byte b h = rw (le-ltb b 32 h) (by (eqb b 32) (within 48 57 b) (within 65 90 b || within 97 122 b) (eqb b 34) (eqb b 123 || eqb b 125)
    (eqb b 60 || eqb b 62)) where
      by : (p q r s t u : Bool) → ◌≡◌ {A = ℕ} (cond p 1 (cond q 2 (cond r 3 (cond s 4 (cond t 5 (cond u 6 7)))))) 0 → ⊥
      by true q r s t u e = omega arith
      by false true r s t u e = omega arith
      by false false true s t u e = omega arith
      by false false false true t u e = omega arith
      by false false false false true u e = omega arith
      by false false false false false true e = omega arith
      by false false false false false false e = omega arith

-- what a step that found b at p, with n after it, says of the text t that was left at `at`
pub record Stepped (d : List ℕ) (t : Text) (at b p n : ℕ) : Type 0 where
  pub split : t ≡ sign p b (text d n)
  pub from : at ≤ p
  pub within : p < length d
  pub next : n ≡ p + 1

tail_of : (d : List ℕ) (at x : ℕ) (s : List ℕ) → drop at d ≡ x ∷ s → (at < length d) × (drop (at + 1) d ≡ s)
tail_of [] at x s e = let z : ◌≡◌ {A = ℕ} 0 1 = cc (drop-nil at) in absurd (omega arith)
tail_of (y ∷ d) zero x s e = (omega arith, cc)
tail_of (y ∷ d) (suc at) x s e = let h = tail_of d at x s e in (omega arith, rw (add-one (suc at)) (rw (add-one at) at h.1))

module _ (d : List ℕ) (b p n : ℕ) where
  step_cond : (q : Bool) (at x : ℕ) (s : List ℕ) → (drop at d ≡ x ∷ s)
      → (step_of (kept (at + 1) s) ≡ Byte b p n → Stepped d (kept (at + 1) s) (at + 1) b p n)
      → step_of (cond q (kept (at + 1) s) (sign at x (kept (at + 1) s))) ≡ Byte b p n
      → Stepped d (cond q (kept (at + 1) s) (sign at x (kept (at + 1) s))) at b p n
  unfolding step_of text
  step_cond true at x s e ih h = let r = ih h in record { split = r.split; from = omega arith; within = r.within; next = r.next }
  step_cond false at x s e ih h =
      let t = tail_of d at x s e in
      let q : p ≡ at = cc in
      let m : n ≡ at + 1 = cc in
      record { split = cc; from = omega arith; within = omega arith; next = cc }

  steps : (s : List ℕ) (at : ℕ) → drop at d ≡ s → step_of (kept at s) ≡ Byte b p n → Stepped d (kept at s) at b p n
  unfolding step_of kept
  steps [] at e h = let z : ◌≡◌ {A = ℕ} 0 1 = cc in absurd (omega arith)
  steps (x ∷ s) at e h = step_cond (eqb (class_of x) 0) at x s e (steps s (at + 1) (tail_of d at x s e).1) h

module _ (d : List ℕ) (at : ℕ) {r : Step} (e : r ≡ step_of (text d at)) where
  pub stepped : {b p n : ℕ} → r ≡ Byte b p n → Stepped d (text d at) at b p n
  unfolding text
  stepped {b} {p} {n} h = steps d b p n (drop at d) at refl (sym e ∙ h)

stop_of : (t : Text) (p : ℕ) → step_of t ≡ End p → t ≡ stop p
unfolding step_of
stop_of (stop q) p h = cc
stop_of (sign q b t) p h = let z : ◌≡◌ {A = ℕ} 0 1 = cc in absurd (omega arith)

module _ (d : List ℕ) (at : ℕ) {r : Step} (e : r ≡ step_of (text d at)) where
  pub ended : {p : ℕ} → r ≡ End p → text d at ≡ stop p
  ended {p} h = stop_of (text d at) p (sym e ∙ h)

-- every byte of a text stands at or after `at`, and what follows it is the file's text from the next place on
pub data From (d : List ℕ) : ℕ → Text → Type 0 where
  at_stop : {at p : ℕ} → From d at (stop p)
  at_sign : {at p b : ℕ} {u : Text} → at ≤ p → p < length d → u ≡ text d (p + 1) → From d (p + 1) u → From d at (sign p b u)

from_before : {d : List ℕ} {at : ℕ} {t : Text} → From d (at + 1) t → From d at t
from_before at_stop = at_stop
from_before {at = at} (at_sign {p = p} h w e r) = let g : at ≤ p = omega arith in at_sign g w e r

from_cond : {d : List ℕ} {at : ℕ} {u : Text} (b : ℕ) (q : Bool) → at < length d → u ≡ text d (at + 1) → From d (at + 1) u
    → From d at (cond q u (sign at b u))
from_cond b true w e r = from_before r
from_cond {at = at} b false w e r = let g : at ≤ at = omega arith in at_sign g w e r

from_kept : (d s : List ℕ) (at : ℕ) → drop at d ≡ s → From d at (kept at s)
unfolding kept text
from_kept d [] at e = at_stop
from_kept d (x ∷ s) at e =
    let w = (tail_of d at x s e).0 in
    let h = (tail_of d at x s e).1 in
    from_cond x (eqb (class_of x) 0) w (ap (kept (at + 1)) (sym h)) (from_kept d s (at + 1) h)

pub from_text : (d : List ℕ) (at : ℕ) → From d at (text d at)
unfolding text
from_text d at = from_kept d (drop at d) at refl

-- what is left at a place starts there or later
kept_from : (s : List ℕ) (at : ℕ) → at ≤ place_of (kept at s)
unfolding kept place_of
kept_from [] at = omega arith
kept_from (b ∷ s) at = by (eqb (class_of b) 0) (kept_from s (at + 1)) where
  by : (q : Bool) → at + 1 ≤ place_of (kept (at + 1) s) → at ≤ place_of (cond q (kept (at + 1) s) (sign at b (kept (at + 1) s)))
  by true h = omega arith
  by false h = omega arith

pub place_from : (d : List ℕ) (at : ℕ) → at ≤ place_of (text d at)
unfolding text
place_from d at = kept_from (drop at d) at
