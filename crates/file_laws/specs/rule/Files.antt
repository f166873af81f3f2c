-- EXACTLY WHEN, for a data file: it is sound exactly when every record is ended, of the first one's length, and judged sound by the public
-- record call's own definition, `verdict_of`; otherwise the first record that fails is named, with its number.
use Rattle.std.specs.Prelude.{◌≡◌, true, false, List, [], ◌∷◌, ℕ, ◌+◌, ℤ, length}
use Rattle.cuts.specs.rule.Records.{Records, over, unended, record_and, records_of, length_of_first}
use Rattle.sound.specs.rule.Sound.{well_formed}
use Rattle.records.specs.rule.Verdict.{sound, refused, verdict_of}
use Rattle.files.specs.rule.File.{FileVerdict, sound_with, bad_table, fault_in}

-- ---- the words
-- the records rs, and what follows them
unfoldable pub records_before : List (List ℕ) → Records → Records
records_before [] rest = rest
records_before (r ∷ rs) rest = record_and r (records_before rs rest)

-- each of the records has `first` bytes and is judged sound
pub data AllSound (t : List ℤ) (first : ℕ) : List (List ℕ) → Type 0 where
  none_yet : AllSound t first []
  one_more : {r : List ℕ} {rs : List (List ℕ)} → length r ≡ first → verdict_of t r ≡ sound → AllSound t first rs
      → AllSound t first (r ∷ rs)

-- the records rs of a file by a well-formed table are sound, and `rest` follows them
pub record SoundBefore (t : List ℤ) (d : List ℕ) (rs : List (List ℕ)) (rest : Records) : Type 0 where
  pub formed : well_formed t ≡ true
  pub records : records_of d ≡ records_before rs rest
  pub all : AllSound t (length_of_first (records_of d)) rs

pub data FileOutcome (t : List ℤ) (d : List ℕ) : FileVerdict → Type 0 where
  not_formed : well_formed t ≡ false → FileOutcome t d bad_table
  -- all records are ended and sound: their count
  all_sound : (rs : List (List ℕ)) → SoundBefore t d rs over → FileOutcome t d (sound_with (length rs))
  -- the record behind those that are sound has no terminator, another length than the first, or a fault of its own
  not_ended : (rs : List (List ℕ)) (r : List ℕ) → SoundBefore t d rs (unended r) → FileOutcome t d (fault_in (length rs + 1) (refused 30))
  other_length : (rs : List (List ℕ)) (r : List ℕ) (rest : Records) → SoundBefore t d rs (record_and r rest)
      → (length r ≡ length_of_first (records_of d) → ⊥) → FileOutcome t d (fault_in (length rs + 1) (refused 31))
  record_fault : (rs : List (List ℕ)) (r : List ℕ) (rest : Records) → SoundBefore t d rs (record_and r rest)
      → length r ≡ length_of_first (records_of d) → (verdict_of t r ≡ sound → ⊥)
      → FileOutcome t d (fault_in (length rs + 1) (verdict_of t r))
