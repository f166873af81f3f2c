-- What the writers of sets ask for.
use Rattle.std.specs.Prelude.{ℕ, ◌+◌, ◌-◌, ◌*◌, ◌^◌, ◌≤◌, ◌<◌, Bool, false, ◌&&◌, List, [], ◌∷◌, ℤ, pos, get_or, set}
use Rattle.std.specs.Int.Signed.{le_z}
use Rattle.cells.specs.rule.Cell.{count_of, eq_z}
use Rattle.widths.specs.rule.Width.{size_of}

-- n subfields of b bytes lie in a record of len, and each holds w bytes
pub record Subfields (len start b w n : ℕ) : Type 0 where
  pub few : w ≤ 20
  pub holds : w ≤ b
  pub inside : start + n * b ≤ len

-- every member has few digits
pub record Small (ms : List ℤ) : Type 0 where
  pub at : (i : ℕ) → size_of (get_or ms i (pos 0)) < 10 ^ 16

-- the w categories from the place at on lie in a record of len
pub record Bitstring (at w len : ℕ) : Type 0 where
  pub few : w ≤ 9999
  pub inside : at + w ≤ len

-- whether the first member is c
unfoldable pub head_is : List ℤ → ℤ → Bool
head_is [] c = false
head_is (m ∷ ms) c = eq_z m c

-- `1` at the place of each member, in a position that starts at the place `at`
unfoldable pub with_members : List ℕ → ℕ → List ℤ → List ℕ
with_members r at [] = r
with_members r at (m ∷ ms) = with_members (set r (at + (count_of m - 1)) 49) at ms

-- whether a number lies between two
unfoldable pub within : ℤ → ℤ → ℤ → Bool
within a b z = le_z a z && le_z z b
