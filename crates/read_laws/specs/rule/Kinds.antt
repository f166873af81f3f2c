-- Each kind's reading in the paper's own words, both ways: the bytes of the value places read as this value exactly when they have this
-- form. Here `ok` is the test that a number is in the range or on a line.
use Rattle.std.specs.Prelude.{List, [], ◌∷◌, ℕ, ℤ, pos}

-- ---- a bitstring's bytes, one for each defined category: `0`, or `1` for a member
pub data BitForm : List ℕ → List ℕ → List ℤ → Type 0 where
  stop : BitForm [] [] []
  zero_bit : {c : ℕ} {cs s : List ℕ} {ms : List ℤ} → BitForm cs s ms → BitForm (c ∷ cs) (48 ∷ s) ms
  one_bit : {c : ℕ} {cs s : List ℕ} {ms : List ℤ} → BitForm cs s ms → BitForm (c ∷ cs) (49 ∷ s) (pos c ∷ ms)
