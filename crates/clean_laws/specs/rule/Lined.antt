-- "One statement a line with CR LF", "CR LF behind every line, the last too", and no line holds a byte below 32 (document 02, C-11;
-- READINGS-02).
use Rattle.std.specs.Prelude.{List, [], ◌∷◌, ◌++◌, ℕ, suc, ◌≤◌}

-- bytes from 32 on
pub data Shown : List ℕ → Type 0 where
  over : Shown []
  byte : {b : ℕ} {s : List ℕ} → 32 ≤ b → Shown s → Shown (b ∷ s)

-- a text of n lines, each of bytes from 32 on, one at least, and CR LF
pub data Lined : ℕ → List ℕ → Type 0 where
  none : Lined 0 []
  line : {n b : ℕ} {s u : List ℕ} → Shown (b ∷ s) → Lined n u → Lined (suc n) ((b ∷ s) ++ (13 ∷ 10 ∷ u))
