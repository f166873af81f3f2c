-- Texts, truths and missing values: what is written reads back, and what is read may be written.
use Rattle.std.specs.Prelude.{◌≡◌, refl, Bool, false, cond, ◌&&◌, get_or}
use Rattle.std.proofs.Math.Path.{ap}
use Rattle.std.proofs.Common.{◌∙◌, arith, length-append}
use Rattle.std.proofs.Math.Bool.{true, and-false}
use mathlib.Core.List.{List, [], ◌∷◌, ◌++◌}
use Prim.Native.Nat.{ℕ, zero, suc, ◌+◌, ◌-◌, ◌≤◌, ◌<◌}
use borrow.Author.Tests.{ne_eqb, eqb-false, le-leb, leb-true, lt-ltb, ltb-true}
use Rattle.std.proofs.Math.Dec.{eqb, leb, ltb}
use Rattle.std.proofs.Math.ListN.{length}
use Rattle.below.specs.Below.{holds_not, and_left, and_right, and_true}
use Rattle.fields.specs.rule.Number.{all_spaces, unspaced}
use Rattle.fields.specs.rule.Field.{text, truth, holds, all_plain, unended, text_field, truth_field, spaces, text_bytes, truth_bytes}
use Rattle.fields.specs.rule.Field.{text_fits}

-- ---- spaces
pub length_spaces : (n : ℕ) → length (spaces n) ≡ n
unfolding spaces
length_spaces zero = refl
length_spaces (suc n) = ap suc (length_spaces n)

pub spaces_blank : (n : ℕ) → all_spaces (spaces n) ≡ true
unfolding spaces all_spaces
spaces_blank zero = refl
spaces_blank (suc n) = spaces_blank n

pub spaces_nothing : (n : ℕ) → unspaced (spaces n) ≡ []
unfolding spaces unspaced
spaces_nothing zero = refl
spaces_nothing (suc n) = spaces_nothing n

-- spaces alone leave nothing
pub unended_blank : (s : List ℕ) → all_spaces s ≡ true → unended s ≡ []
unfolding unended
unended_blank [] e = refl
unended_blank (b ∷ s) e = rw e

-- ---- a text, whose last byte is no space, with spaces behind it
module _ (k : ℕ) where
  solid : (s : List ℕ) (n : ℕ) → length s ≡ suc n → 32 < get_or s n 0 → all_spaces (s ++ spaces k) ≡ false
  unfolding all_spaces
  solid [] n e h = absurd (omega arith)
  solid (b ∷ []) zero e h = rw (ne_eqb b 32 (λ q. omega arith))
  solid (b ∷ []) (suc n) e h = absurd (omega arith)
  solid (b ∷ c ∷ s) zero e h = absurd (omega arith)
  solid (b ∷ c ∷ s) (suc n) e h = ap (λ (x : Bool). eqb b 32 && x) (solid (c ∷ s) n (omega arith) h) ∙ and-false (eqb b 32)

  unended_back : (s : List ℕ) (n : ℕ) → length s ≡ suc n → 32 < get_or s n 0 → unended (s ++ spaces k) ≡ s
  unfolding unended
  unended_back [] n e h = absurd (omega arith)
  unended_back (b ∷ []) zero e h = rw (solid (b ∷ []) zero e h) (ap (λ (l : List ℕ). b ∷ l) (unended_blank (spaces k) (spaces_blank k)))
  unended_back (b ∷ []) (suc n) e h = absurd (omega arith)
  unended_back (b ∷ c ∷ s) zero e h = absurd (omega arith)
  unended_back (b ∷ c ∷ s) (suc n) e h =
      rw (solid (b ∷ c ∷ s) (suc n) e h) (ap (λ (l : List ℕ). b ∷ l) (unended_back (c ∷ s) n (omega arith) h))

spaces_plain : (n : ℕ) → all_plain (spaces n) ≡ true
unfolding spaces all_plain
spaces_plain zero = refl
spaces_plain (suc n) = spaces_plain n

plain_append : (s t : List ℕ) → all_plain s ≡ true → all_plain t ≡ true → all_plain (s ++ t) ≡ true
unfolding all_plain
plain_append [] t e f = f
plain_append (b ∷ s) t e f =
    and_true (leb 32 b) (all_plain (s ++ t)) (and_left (leb 32 b) (all_plain s) e)
    (plain_append s t (and_right (leb 32 b) (all_plain s) e) f)

-- what a text that may be written is, in parts
pub record Fitting (w : ℕ) (s : List ℕ) : Type 0 where
  pub some : 0 < length s
  pub few : length s ≤ w
  pub plain : all_plain s ≡ true
  pub ended : 32 < get_or s (length s - 1) 0

module _ (w : ℕ) (s : List ℕ) where
  pub fitting : text_fits w s ≡ true → Fitting w s
  unfolding text_fits
  fitting e =
      let b₃ = ltb 32 (get_or s (length s - 1) 0) in
      let b₂ = all_plain s && b₃ in
      let b₁ = leb (length s) w && b₂ in
      let e₁ : b₁ ≡ true = and_right (ltb 0 (length s)) b₁ e in
      let e₂ : b₂ ≡ true = and_right (leb (length s) w) b₂ e₁ in
      record {
        some = ltb-true 0 (length s) (and_left (ltb 0 (length s)) b₁ e);
        few = leb-true (length s) w (and_left (leb (length s) w) b₂ e₁);
        plain = and_left (all_plain s) b₃ e₂;
        ended = ltb-true 32 (get_or s (length s - 1) 0) (and_right (all_plain s) b₃ e₂);
      }

  pub fits_text : Fitting w s → text_fits w s ≡ true
  unfolding text_fits
  fits_text f = rw (lt-ltb 0 (length s) f.some, le-leb (length s) w f.few, f.plain, lt-ltb 32 (get_or s (length s - 1) 0) f.ended)

  pub text_back : Fitting w s → text_field (text_bytes w s) ≡ holds (text s)
  unfolding text_field text_bytes
  text_back f =
      let e : length s ≡ suc (length s - 1) = omega (arith, f.some) in
      let k = w - length s in
      rw (
        solid k s (length s - 1) e f.ended,
        plain_append s (spaces k) f.plain (spaces_plain k),
        unended_back k s (length s - 1) e f.ended,
      )

  pub length_text : Fitting w s → length (text_bytes w s) ≡ w
  unfolding text_bytes
  length_text f = rw (length-append, length_spaces) (omega (arith, f.few))

-- ---- what is read may be written
unended_some : (s : List ℕ) → all_spaces s ≡ false → 0 < length (unended s)
unfolding unended all_spaces
unended_some [] e = holds_not refl e
unended_some (b ∷ s) e = rw e (omega arith)

unended_few : (s : List ℕ) → length (unended s) ≤ length s
unfolding unended
unended_few [] = omega arith
unended_few (b ∷ s) = go (all_spaces (b ∷ s)) (unended_few s)
  where
    go : (a : Bool) → length (unended s) ≤ length s → length (cond a [] (b ∷ unended s)) ≤ suc (length s)
    go true h = omega arith
    go false h = omega arith

unended_plain : (s : List ℕ) → all_plain s ≡ true → all_plain (unended s) ≡ true
unfolding unended all_plain
unended_plain [] e = refl
unended_plain (b ∷ s) e =
    go (all_spaces (b ∷ s))
    (and_true (leb 32 b) (all_plain (unended s)) (and_left (leb 32 b) (all_plain s) e)
    (unended_plain s (and_right (leb 32 b) (all_plain s) e)))
  where
    go : (a : Bool) → (leb 32 b && all_plain (unended s)) ≡ true → all_plain (cond a [] (b ∷ unended s)) ≡ true
    go true h = refl
    go false h = h

-- the last byte of a list after a first one
last_cons : (b : ℕ) (l : List ℕ) → 0 < length l → get_or (b ∷ l) (length (b ∷ l) - 1) 0 ≡ get_or l (length l - 1) 0
last_cons b [] h = absurd (omega arith)
last_cons b (c ∷ l) h =
    let e : length (b ∷ c ∷ l) - 1 ≡ suc (length l) = omega arith in
    let f : length (c ∷ l) - 1 ≡ length l = omega arith in
    rw (e, f)

not_both : {a b : Bool} → b ≡ true → (a && b) ≡ false → a ≡ false
not_both {a = true} e f = holds_not e f
not_both {a = false} e f = refl

above : (b : ℕ) → (b ≡ 32 → ⊥) → 32 ≤ b → 32 < b
above b n h = omega arith

unended_ended : (s : List ℕ) → all_spaces s ≡ false → all_plain s ≡ true → 32 < get_or (unended s) (length (unended s) - 1) 0
unfolding unended all_spaces all_plain
unended_ended [] e p = holds_not refl e
unended_ended (b ∷ s) e p = rw e (go (all_spaces s) refl (λ q. unended_ended s q (and_right (leb 32 b) (all_plain s) p)))
  where
    go : (a : Bool) → all_spaces s ≡ a → (all_spaces s ≡ false → 32 < get_or (unended s) (length (unended s) - 1) 0)
        → 32 < get_or (b ∷ unended s) (length (b ∷ unended s) - 1) 0
    go true q ih =
        let n : unended s ≡ [] = unended_blank s q in
        let x : eqb b 32 ≡ false = not_both q e in
        let y : 32 ≤ b = leb-true 32 b (and_left (leb 32 b) (all_plain s) p) in
        rw n (above b (eqb-false b 32 x) y)
    go false q ih = rw (last_cons b (unended s) (unended_some s q)) (ih q)

pub text_fit : (w : ℕ) (s : List ℕ) → length s ≡ w → all_spaces s ≡ false → all_plain s ≡ true → text_fits w (unended s) ≡ true
text_fit w s e seen p =
    fits_text w (unended s)
    (record {
      some = unended_some s seen;
      few = omega (arith, unended_few s);
      plain = unended_plain s p;
      ended = unended_ended s seen p;
    })

-- ---- truths
pub truth_back : (b : Bool) → truth_field (truth_bytes b) ≡ holds (truth b)
unfolding truth_field truth_bytes all_spaces
truth_back true = refl
truth_back false = refl

pub length_truth : (b : Bool) → length (truth_bytes b) ≡ 1
unfolding truth_bytes
length_truth b = refl
