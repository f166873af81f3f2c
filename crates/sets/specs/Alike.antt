-- Bytes that are each one of two: a space, or `0` and `1`.
use Rattle.std.specs.Prelude.{◌≡◌, Bool, true, ◌&&◌, ◌||◌, List, [], ◌∷◌, ℕ, ◌≤◌, eqb, leb, ℤ, pos}
use Rattle.std.specs.Int.Signed.{le_z}
use Rattle.places.specs.rule.Places.{pick}
use Rattle.fields.specs.rule.Row.{defined, bit_places}

abbrev pub one_of : ℕ → ℕ → ℕ → Bool
one_of x y b = eqb b x || eqb b y

unfoldable pub all_of : ℕ → ℕ → List ℕ → Bool
all_of x y [] = true
all_of x y (b ∷ s) = one_of x y b && all_of x y s

-- the same of the bytes of those categories from 1 to w that pass, in a position from the place `at` on
abbrev pub all_at : ℕ → ℕ → List ℕ → ℕ → ℕ → (ℤ → Bool) → Bool
all_at x y r at w ok = all_of x y (pick r (bit_places at (defined ok 1 w)))

-- the first number from 1 on that is not below `from`
pub record FirstOf (from : ℤ) (r : ℕ) : Type 0 where
  pub low : 1 ≤ r
  pub at : (c : ℕ) → 1 ≤ c → le_z from (pos c) ≡ leb r c

-- the last number up to w that is not above `to`, and 0 where there is none
pub record LastOf (to : ℤ) (w r : ℕ) : Type 0 where
  pub few : r ≤ w
  pub at : (c : ℕ) → 1 ≤ c → c ≤ w → le_z (pos c) to ≡ leb c r
