-- Letters and digits are told by their capitals, so that names which agree are well named together.
use mathlib.Core.Path.{◌≡◌, refl, ◌∙◌, sym}
use mathlib.Core.Logic.{⊎_elim}
use mathlib.Core.Bool.{Bool, true, false, cond, ◌||◌}
use Prim.Native.Nat.{ℕ, ◌-◌, ◌≤◌, ◌<◌}
use native.Mathlib.Omega.{arith}
use lib.Dec.{ltb, leb, eqb}
use borrow.Author.Tests.{lt-ltb, le-ltb, le-leb, lt-leb, leb-true, ne_eqb}
use Rattle.below.specs.Below.{same_bool, holds_not, and_left, and_right, either_true, or_true, lt_or_le}
use Rattle.ascii.specs.rule.Class.{class_of, upper_of, within}
use Rattle.scan.specs.rule.Number.{is_digit}
use Rattle.scan.proofs.Orders.{digit_bounds}
use Rattle.names.specs.rule.Standard.{is_letter}

within_of : (x y b : ℕ) → x ≤ b → b ≤ y → within x y b ≡ true
within_of x y b h g = rw (le-leb x b h, le-leb b y g)

of_within : (x y b : ℕ) → within x y b ≡ true → (x ≤ b) × (b ≤ y)
of_within x y b e = (leb-true x b (and_left (leb x b) (leb b y) e), leb-true b y (and_right (leb x b) (leb b y) e))

class_three : (x y w l q br an : Bool) → eqb (cond x 0 (cond y 1 (cond w 2 (cond l 3 (cond q 4 (cond br 5 (cond an 6 7))))))) 3 ≡ true → l
    ≡ true
class_three true y w l q br an e = holds_not e refl
class_three false true w l q br an e = holds_not e refl
class_three false false true l q br an e = holds_not e refl
class_three false false false true q br an e = refl
class_three false false false false true br an e = holds_not e refl
class_three false false false false false true an e = holds_not e refl
class_three false false false false false false true e = holds_not e refl
class_three false false false false false false false e = holds_not e refl

module _ (b : ℕ) where
  -- what the capital of b is, by where b stands
  upper_low : b < 97 → upper_of b ≡ b
  unfolding upper_of
  upper_low h = rw (lt-ltb b 97 h)

  upper_small : 97 ≤ b → b ≤ 122 → upper_of b ≡ b - 32
  unfolding upper_of
  upper_small h g = rw (le-ltb b 97 h, le-leb b 122 g)

  upper_high : 122 < b → upper_of b ≡ b
  unfolding upper_of
  upper_high h = rw (le-ltb b 97 (omega arith), lt-leb b 122 h)

  letter_in_lem : (within 65 90 b || within 97 122 b) ≡ true → 65 ≤ b → is_letter b ≡ true
  unfolding is_letter class_of
  letter_in_lem e h =
      let n : (b ≡ 32 → ⊥) = λ q. omega arith in
      rw (le-ltb b 32 (omega arith), ne_eqb b 32 n, le-leb 48 b (omega arith), lt-leb b 57 (omega arith), e)

  digit_in : 48 ≤ b → b ≤ 57 → is_digit b ≡ true
  unfolding is_digit class_of
  digit_in h g =
      let n : (b ≡ 32 → ⊥) = λ q. omega arith in
      rw (le-ltb b 32 (omega arith), ne_eqb b 32 n, le-leb 48 b h, le-leb b 57 g)

  letter_ranges : is_letter b ≡ true → (within 65 90 b || within 97 122 b) ≡ true
  unfolding is_letter class_of
  letter_ranges e = class_three (ltb b 32) (eqb b 32) (within 48 57 b) (within 65 90 b || within 97 122 b) (eqb b 34)
      (eqb b 123 || eqb b 125) (eqb b 60 || eqb b 62) e

  -- a letter is a byte whose capital is one of `A` to `Z`, a digit one whose capital is one of `0` to `9`
  pub letter_upper : is_letter b ≡ within 65 90 (upper_of b)
  letter_upper = same_bool (is_letter b) (within 65 90 (upper_of b)) to from where
    to : is_letter b ≡ true → within 65 90 (upper_of b) ≡ true
    to e =
        ⊎_elim
        (λ w. let h = of_within 65 90 b w in let u = upper_low (omega arith) in within_of 65 90 (upper_of b) (omega arith) (omega arith))
        (λ w. let h = of_within 97 122 b w in let u = upper_small (omega arith) (omega arith) in
        within_of 65 90 (upper_of b) (omega arith) (omega arith))
        (either_true (within 65 90 b) (within 97 122 b) (letter_ranges e))

    from : within 65 90 (upper_of b) ≡ true → is_letter b ≡ true
    from e = let h = of_within 65 90 (upper_of b) e in
        ⊎_elim
        (λ l. let u = upper_low l in letter_in_lem (rw (within_of 65 90 b (omega arith) (omega arith))) (omega arith))
        (λ g. ⊎_elim
        (λ (l : b < 123). letter_in_lem (rw (within_of 97 122 b g (omega arith)) (or_true (within 65 90 b))) (omega arith))
        (λ (l : 123 ≤ b). let u = upper_high (omega arith) in absurd (omega arith))
        (lt_or_le b 123))
        (lt_or_le b 97)

  pub digit_upper : is_digit b ≡ within 48 57 (upper_of b)
  digit_upper = same_bool (is_digit b) (within 48 57 (upper_of b)) to from where
    to : is_digit b ≡ true → within 48 57 (upper_of b) ≡ true
    to e = let h = digit_bounds b e in let u = upper_low (omega arith) in within_of 48 57 (upper_of b) (omega arith) (omega arith)

    from : within 48 57 (upper_of b) ≡ true → is_digit b ≡ true
    from e = let h = of_within 48 57 (upper_of b) e in
        ⊎_elim
        (λ l. let u = upper_low l in digit_in (omega arith) (omega arith))
        (λ g. ⊎_elim
        (λ (l : b < 123). let u = upper_small g (omega arith) in absurd (omega arith))
        (λ (l : 123 ≤ b). let u = upper_high (omega arith) in absurd (omega arith))
        (lt_or_le b 123))
        (lt_or_le b 97)

  -- the capital of a letter or digit is a byte other than 0
  pub upper_bounds : (is_letter b || is_digit b) ≡ true → (1 ≤ upper_of b) × (upper_of b ≤ 255)
  upper_bounds e =
      ⊎_elim
      (λ l. let h = of_within 65 90 (upper_of b) (sym letter_upper ∙ l) in (omega arith, omega arith))
      (λ l. let h = of_within 48 57 (upper_of b) (sym digit_upper ∙ l) in (omega arith, omega arith))
      (either_true (is_letter b) (is_digit b) e)
