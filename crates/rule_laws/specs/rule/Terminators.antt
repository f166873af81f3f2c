-- "A terminator is CR LF, LF CR, CR or LF; the first one met (a pair if both bytes adjoin) holds for the file": both ways. 13 is CR, 10 is
-- LF.
use Rattle.std.specs.Prelude.{◌≡◌, List, [], ◌∷◌, ◌++◌, ℕ}
use Rattle.cuts.specs.declared.Terminator.{Terminator}
use Rattle.cuts.specs.rule.Cut.{one_byte, two_bytes, no_ending}

-- ---- the words
-- no CR and no LF
pub data Plain : List ℕ → Type 0 where
  nothing : Plain []
  byte : {b : ℕ} {s : List ℕ} → (b ≡ 13 → ⊥) → (b ≡ 10 → ⊥) → Plain s → Plain (b ∷ s)

-- b does not adjoin: the data end, or another byte stands there
pub data NotNext (b : ℕ) : List ℕ → Type 0 where
  end : NotNext b []
  other : {c : ℕ} {s : List ℕ} → (c ≡ b → ⊥) → NotNext b (c ∷ s)

-- the first one met: no CR and no LF stands before it
pub data First (d : List ℕ) : Terminator → Type 0 where
  cr_lf : (a s : List ℕ) → Plain a → d ≡ a ++ 13 ∷ 10 ∷ s → First d (two_bytes 13 10)
  lf_cr : (a s : List ℕ) → Plain a → d ≡ a ++ 10 ∷ 13 ∷ s → First d (two_bytes 10 13)
  cr : (a s : List ℕ) → Plain a → d ≡ a ++ 13 ∷ s → NotNext 10 s → First d (one_byte 13 10)
  lf : (a s : List ℕ) → Plain a → d ≡ a ++ 10 ∷ s → NotNext 13 s → First d (one_byte 10 13)
  no_end : Plain d → First d no_ending
