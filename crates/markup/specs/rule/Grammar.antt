-- References, comments and gaps as XML 1.0 has them.
use Rattle.std.specs.Prelude.{◌≡◌, Bool, true, false, List, [], ◌∷◌, ◌++◌, ℕ}
use Rattle.utf.specs.rule.Chars.{legal_character}
use Rattle.markup.specs.rule.Bytes.{of_kind, is_white}
use Rattle.markup.specs.rule.Reference.{reference_number, digit_kind}

-- every byte passes
pub data Each (f : ℕ → Bool) : List ℕ → Type 0 where
  no_more : Each f []
  each : {b : ℕ} {s : List ℕ} → f b ≡ true → Each f s → Each f (b ∷ s)

-- digits, one or more
pub data ReferenceDigits (hex : Bool) : List ℕ → Type 0 where
  digits : {b : ℕ} {s : List ℕ} → Each (of_kind (digit_kind hex)) (b ∷ s) → ReferenceDigits hex (b ∷ s)

-- what follows the & of a reference that says c
pub data Ref : List ℕ → ℕ → Type 0 where
  lt : Ref (108 ∷ 116 ∷ 59 ∷ []) 60
  gt : Ref (103 ∷ 116 ∷ 59 ∷ []) 62
  amp : Ref (97 ∷ 109 ∷ 112 ∷ 59 ∷ []) 38
  apos : Ref (97 ∷ 112 ∷ 111 ∷ 115 ∷ 59 ∷ []) 39
  quot : Ref (113 ∷ 117 ∷ 111 ∷ 116 ∷ 59 ∷ []) 34
  decimal : {s : List ℕ} {c : ℕ} → ReferenceDigits false s → c ≡ reference_number false 0 s → legal_character c ≡ true
      → Ref (35 ∷ s ++ 59 ∷ []) c
  hex : {s : List ℕ} {c : ℕ} → ReferenceDigits true s → c ≡ reference_number true 0 s → legal_character c ≡ true
      → Ref (35 ∷ 120 ∷ s ++ 59 ∷ []) c

-- what follows the <!-- of a comment: bytes other than dashes, each behind one dash at most, and -->
pub data Note : List ℕ → Type 0 where
  close : Note (45 ∷ 45 ∷ 62 ∷ [])
  plain : {b : ℕ} {s : List ℕ} → (b ≡ 45 → ⊥) → Note s → Note (b ∷ s)
  dash : {b : ℕ} {s : List ℕ} → (b ≡ 45 → ⊥) → Note s → Note (45 ∷ b ∷ s)

-- white space and comments
pub data Gap : List ℕ → Type 0 where
  none : Gap []
  white : {b : ℕ} {s : List ℕ} → is_white b ≡ true → Gap s → Gap (b ∷ s)
  note : {u s : List ℕ} → Note u → Gap s → Gap (60 ∷ 33 ∷ 45 ∷ 45 ∷ u ++ s)
