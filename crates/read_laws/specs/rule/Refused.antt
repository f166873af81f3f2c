-- A record is refused exactly when it is shorter than L, holds a byte below 32, or has an illegal field, given a well-formed table; and
-- the places are the first ones.
use Rattle.std.specs.Prelude.{◌≡◌, Bool, true, false, List, ℕ, ◌+◌, ◌≤◌, ◌<◌, ℤ, length, get_or}
use Rattle.sets.specs.rule.Sets.{is_illegal}
use Rattle.sound.specs.rule.Sound.{well_formed}
use Rattle.sound.specs.rule.Rows.{rows_of, length_of}
use Rattle.lows.specs.rule.Lows.{low_at}
use Rattle.records.specs.rule.First.{bad_row, row_fault}
use Rattle.records.specs.rule.Value.{reading_at}
use Rattle.records.specs.rule.Verdict.{Verdict, sound, refused, low_byte, bad_field}

-- ---- the first of the n numbers from i on
-- k is the first: it passes, and none before it does
pub record IsFirst (f : ℕ → Bool) (i n k : ℕ) : Type 0 where
  pub from : i ≤ k
  pub below : k < i + n
  pub passes : f k ≡ true
  pub none : (j : ℕ) → i ≤ j → j < k → f j ≡ false

-- a record that passes by a well-formed table
module _ (t : List ℤ) (good : well_formed t ≡ true) (bytes : List ℕ) where
  -- what a sound record has
  pub record Passes : Type 0 where
    pub long : length_of t ≤ length bytes
    pub plain : (p : ℕ) → p < length bytes → 32 ≤ get_or bytes p 0
    pub legal_rows : (i : ℕ) → i < rows_of t → is_illegal (reading_at t i bytes) ≡ false

-- no byte is below 32
abbrev pub NoLow : List ℕ → Type 0
NoLow bytes = (p : ℕ) → p < length bytes → low_at bytes p ≡ false

pub data RecordOutcome (t : List ℤ) (bytes : List ℕ) : Verdict → Type 0 where
  not_formed : well_formed t ≡ false → RecordOutcome t bytes (refused 20)
  too_short : well_formed t ≡ true → length bytes < length_of t → RecordOutcome t bytes (refused 22)
  -- "23 comes with the byte's place", a field's fault with the lowest row
  low_byte_lem : {p : ℕ} → well_formed t ≡ true → length_of t ≤ length bytes → IsFirst (low_at bytes) 0 (length bytes) p
      → RecordOutcome t bytes (low_byte p)
  bad_field_lem : {i : ℕ} → well_formed t ≡ true → length_of t ≤ length bytes → NoLow bytes
      → IsFirst (bad_row t (rows_of t) bytes) 0 (rows_of t) i → RecordOutcome t bytes (bad_field i (row_fault t (rows_of t) bytes i))
  no_fault : (good : well_formed t ≡ true) → Passes t good bytes → RecordOutcome t bytes sound
