-- "The value width w: digits of the largest category for SINGLE and for each spread subfield; the largest category itself for a bitstring":
-- the rule takes the most that any number of the block needs, and that is what the largest needs.
use Rattle.std.specs.Prelude.{◌≡◌, refl, Bool, true, false, ℕ, zero, suc, ◌^◌, ◌≤◌, ◌<◌, max}
use Rattle.std.proofs.Common.{⊎_elim, arith}
use mathlib.Core.List.{List, [], ◌∷◌}
use Rattle.std.proofs.Math.Nat.{max-zero}
use Rattle.below.specs.Below.{lt_or_le}
use Rattle.ascii.specs.rule.Tens.{digits_of}
use Rattle.ascii.specs.Tens.{digits_rise}
use Rattle.cells.specs.rule.Cell.{signed_of, number_of}
use Rattle.layout.specs.declared.Kind.{Kind}
use Rattle.layout.specs.declared.Kind.TheVariants.{Single, Multiple}
use Rattle.layout.specs.declared.Spread.TheVariants.{Bits, Fields}
use Rattle.widths.specs.rule.Width.{size_of, need}
use Rattle.survey.specs.rule.Survey.{Amount}
use Rattle.survey.specs.rule.Width.{scaled, widest_amount}

-- ---- the words
-- the largest of the numbers
unfoldable pub largest : List Amount → ℕ
largest [] = 0
largest (a ∷ l) = max a.size (largest l)

-- no number has more than 16 digits, as none has that passes the limits
pub data Few : List Amount → Type 0 where
  none : Few []
  more : {a : Amount} {l : List Amount} → a.size < 10 ^ 16 → Few l → Few (a ∷ l)

-- ---- a number without its sign
size_of_lem : (m : Bool) (n : ℕ) → size_of (number_of m n) ≡ n
unfolding number_of signed_of
size_of_lem false n = refl
size_of_lem true zero = refl
size_of_lem true (suc n) = refl

size_scaled : (a : Amount) → size_of (scaled a) ≡ a.size
size_scaled a = size_of_lem a.minus a.size

-- ---- the digits of the larger of two are the more of the two
digits_max : (m n : ℕ) → m < 10 ^ 16 → n < 10 ^ 16 → max (digits_of m) (digits_of n) ≡ digits_of (max m n)
digits_max m n h k = ⊎_elim less more (lt_or_le m n) where
  less : m < n → max (digits_of m) (digits_of n) ≡ digits_of (max m n)
  less l =
      let e : max m n ≡ n = omega arith in
      rw e (omega (arith, digits_rise m n (omega arith) k))

  more : n ≤ m → max (digits_of m) (digits_of n) ≡ digits_of (max m n)
  more l =
      let e : max m n ≡ m = omega arith in
      rw e (omega (arith, digits_rise n m l h))

largest_few : {l : List Amount} → Few l → largest l < 10 ^ 16
unfolding largest
largest_few none = omega arith
largest_few (more h f) = omega (arith, largest_few f)

-- ---- w of one number or more
module _ (k : Kind) (digits : (a : Amount) → need k (scaled a) ≡ digits_of a.size) where
  by_digits : (a : Amount) (l : List Amount) → Few (a ∷ l) → widest_amount k (a ∷ l) ≡ digits_of (largest (a ∷ l))
  unfolding widest_amount largest
  by_digits a [] f = rw (digits a, max-zero (digits_of a.size), max-zero a.size)
  by_digits a (b ∷ l) (more h f) = rw (digits a, by_digits b l f) (digits_max a.size (largest (b ∷ l)) h (largest_few f))

single_needs : (a : Amount) → need Single (scaled a) ≡ digits_of a.size
unfolding need
single_needs a = rw (size_scaled a)

spread_needs : (n w : ℕ) (a : Amount) → need (Multiple (Fields n w)) (scaled a) ≡ digits_of a.size
unfolding need
spread_needs n w a = rw (size_scaled a)

-- SINGLE, and each subfield of a spread: the digits of the largest category
pub single_width : (a : Amount) (l : List Amount) → Few (a ∷ l) → widest_amount Single (a ∷ l) ≡ digits_of (largest (a ∷ l))
single_width = by_digits Single single_needs

pub spread_width : (n w : ℕ) (a : Amount) (l : List Amount) → Few (a ∷ l)
    → widest_amount (Multiple (Fields n w)) (a ∷ l) ≡ digits_of (largest (a ∷ l))
spread_width n w = by_digits (Multiple (Fields n w)) (spread_needs n w)

-- A BITSTRING: the largest category itself
pub bits_width : (l : List Amount) → widest_amount (Multiple Bits) l ≡ largest l
unfolding widest_amount largest need
bits_width [] = refl
bits_width (a ∷ l) = rw (size_scaled a, bits_width l)
