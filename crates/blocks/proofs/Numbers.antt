-- A value over its stretch: what stretches of the right form say, and the order of signed numbers by the order of their sizes.
use mathlib.Core.Path.{◌≡◌, refl, ◌∙◌, sym}
use mathlib.Core.Bool.{Bool, true, false, cond, not, ◌&&◌, ◌||◌}
use mathlib.Core.List.{List, []}
use Prim.Native.Nat.{ℕ, zero, suc}
use native.Mathlib.Omega.{arith}
use lib.Dec.{eqb, ltb}
use lib.IntN.{pos, neg_ℤ}
use lib.Signed.{lt_z}
use borrow.Author.Tests.{eqb-true, ltb-true, ltb-false, lt-ltb, le-ltb}
use Rattle.below.specs.Below.{holds_not}
use Rattle.cells.specs.rule.Cell.{number_of}
use Rattle.scan.specs.rule.Number.{decimal_of}
use Rattle.spans.specs.rule.Heard.{Heard, All, Ill, heard, nothing}
use Rattle.spans.specs.rule.Says.{count_after}
use Rattle.spans.proofs.Hearing.{heard_exactly}
use Rattle.forms.specs.rule.Form.{fits_of}
use Rattle.tags.specs.rule.Tag.{stretch_fits}
use Rattle.tokens.specs.declared.Value.{Value}
use Rattle.values.specs.Value.{points_of}
use Rattle.survey.specs.rule.Survey.{Amount}
use Rattle.survey.specs.rule.Width.{scaled}
use Rattle.reading.specs.rule.Token.{amount_read}
use Rattle.amounts.specs.rule.Said.{digits_in, true_in}
use Rattle.amounts.specs.Filled.{filled}
use Rattle.amounts.proofs.Exactly.{is_spelt, true_size}
use Rattle.xml_reading.specs.rule.Element.{chars_of, said_in, amount_in}
use Rattle.blocks.specs.Code.{held_as, stretch, Below}

-- ---- a stretch of the form of a value says characters alone
pub fits_all : (d : List ℕ) (v e : ℕ) → stretch_fits 2 d v e ≡ true → heard (stretch d v e) 0 ≡ All (chars_of d v e)
unfolding stretch_fits fits_of count_after chars_of
fits_all d v e = by (heard (stretch d v e) 0) where
  by : (h : Heard) → fits_of 2 h ≡ true → h ≡ All (said_in h)
  by (All cs) q = refl
  by Ill q = holds_not q (le-ltb 0 0 (omega arith))

pub amount_held : (d : List ℕ) (v e : ℕ) {r : Value}
    → ((cs : List ℕ) → heard (stretch d v e) 0 ≡ All cs → r ≡ filled v e (amount_read v e cs))
    → stretch_fits 2 d v e ≡ true → r ≡ held_as (amount_in d v e)
unfolding amount_in amount_read
amount_held d v e h q = h (chars_of d v e) (fits_all d v e q)

-- ---- two signs
both_minus : (m n : ℕ) → lt_z (neg_ℤ (pos m)) (neg_ℤ (pos n)) ≡ ltb n m
both_minus zero zero = refl
both_minus zero (suc n) = sym (le-ltb (suc n) 0 (omega arith))
both_minus (suc m) zero = sym (lt-ltb 0 (suc m) (omega arith))
both_minus (suc m) (suc n) = by (ltb n m) refl where
  by : (q : Bool) → ltb n m ≡ q → q ≡ ltb (suc n) (suc m)
  by true e = let h = ltb-true n m e in sym (lt-ltb (suc n) (suc m) (omega arith))
  by false e = let h = ltb-false n m e in sym (le-ltb (suc n) (suc m) (omega arith))

up_minus : (m n : ℕ) → lt_z (pos m) (neg_ℤ (pos n)) ≡ false
up_minus m zero = le-ltb m 0 (omega arith)
up_minus m (suc n) = refl

minus_up : (m n : ℕ) → lt_z (neg_ℤ (pos m)) (pos n) ≡ (ltb 0 n || ltb 0 m)
minus_up zero n = by (ltb 0 n) where
  by : (q : Bool) → q ≡ (q || false)
  by true = refl
  by false = refl
minus_up (suc m) n = rw (lt-ltb 0 (suc m) (omega arith)) (by (ltb 0 n)) where
  by : (q : Bool) → true ≡ (q || true)
  by true = refl
  by false = refl

module _ {a b : Bool} (x y : ℕ) where
  pub less_both : {r : Bool} → a ≡ true → b ≡ true → r ≡ ltb x y → r ≡ lt_z (number_of b y) (number_of a x)
  unfolding number_of
  less_both e f g = g ∙ rw (e, f) (sym (both_minus y x))

  pub less_never : a ≡ true → b ≡ false → false ≡ lt_z (number_of b y) (number_of a x)
  unfolding number_of
  less_never e f = rw (e, f) (sym (up_minus y x))

  pub less_some : {r s : Bool} → a ≡ false → b ≡ true → r ≡ ltb 0 x → s ≡ ltb 0 y → (r || s) ≡ lt_z (number_of b y) (number_of a x)
  unfolding number_of
  less_some e f g h = rw (g, h, e, f) (sym (minus_up y x))

  pub less_plain : {r : Bool} → a ≡ false → b ≡ false → r ≡ ltb y x → r ≡ lt_z (number_of b y) (number_of a x)
  unfolding number_of
  less_plain e f g = g ∙ rw (e, f)

-- nothing says 0
pub none_heard : heard [] 0 ≡ All []
none_heard = (heard_exactly [] []).1 nothing

pub none_says : true_in [] ≡ 0
unfolding true_in digits_in decimal_of
none_says = refl

-- ---- the true values of two values in form
module _ (d : List ℕ) (v e w k : ℕ) where
  abbrev x : Amount
  x = amount_in d v e

  abbrev y : Amount
  y = amount_in d w k

  size_true : (v e : ℕ) → (amount_in d v e).formed ≡ true → true_in (chars_of d v e) ≡ (amount_in d v e).size
  unfolding amount_in
  size_true v e f = true_size v e (is_spelt v e (chars_of d v e) f)

  pub below_true : {r : Bool} → stretch_fits 2 d v e ≡ true → stretch_fits 2 d w k ≡ true → x.formed ≡ true → y.formed ≡ true
      → Below d (held_as x) (held_as y) r → r ≡ lt_z (scaled y) (scaled x)
  unfolding amount_in amount_read
  below_true f g i j h =
      h (chars_of d v e) (chars_of d w k) (fits_all d v e f) (fits_all d w k g) ∙ rw (size_true v e i, size_true w k j)

-- ---- the point's code of a block that grows: k says that it has a number, p is its code, o that of the number
pub points_differ : (k : Bool) (p o : ℕ) → (k && not (eqb p o)) ≡ true → 1 ≡ cond k (points_of p o) o
points_differ k p o = by k (eqb p o) where
  by : (k q : Bool) → (k && not q) ≡ true → 1 ≡ cond k (cond q p 1) o
  by true true e = holds_not e refl
  by true false e = refl
  by false q e = holds_not e refl

pub points_alike : (k : Bool) (p o : ℕ) → (k && not (eqb p o)) ≡ false → o ≡ cond k (points_of p o) o
points_alike k p o = by k (eqb p o) refl where
  by : (k q : Bool) → eqb p o ≡ q → (k && not q) ≡ false → o ≡ cond k (cond q p 1) o
  by true true i e = sym (eqb-true p o i)
  by true false i e = holds_not refl e
  by false q i e = refl
