-- EXACTLY WHEN, for a part of a file: 20 where the table is not well formed, 29 where the number is none of 1 to 4; else the first record
-- that fails is named, with its number, or the count of those that are ended and sound.
use Rattle.std.specs.Prelude.{◌≡◌, true, false, List, ℕ, ◌+◌, ◌≤◌, ℤ, length}
use Rattle.cuts.specs.rule.Records.{Records, over, unended, record_and, records_from}
use Rattle.sound.specs.rule.Sound.{well_formed}
use Rattle.records.specs.rule.Verdict.{sound, refused, verdict_of}
use Rattle.files.specs.rule.File.{sound_with, bad_table, fault_in}
use Rattle.file_laws.specs.rule.Files.{records_before, AllSound}
use Rattle.parts.specs.rule.Part.{numbered, PartVerdict, no_terminator, judged_as}

-- 1 CR LF, 2 LF CR, 3 CR, 4 LF
pub record IsNumber (k : ℕ) : Type 0 where
  pub least : 1 ≤ k
  pub most : k ≤ 4

-- the records rs of a part, by a well-formed table and a terminator's number, are sound, and `rest` follows them
pub record SoundIn (t : List ℤ) (d : List ℕ) (terminator first : ℕ) (rs : List (List ℕ)) (rest : Records) : Type 0 where
  pub formed : well_formed t ≡ true
  pub number : IsNumber terminator
  pub records : records_from (numbered terminator) d ≡ records_before rs rest
  pub all : AllSound t first rs

pub data PartOutcome (t : List ℤ) (d : List ℕ) (terminator first last : ℕ) : PartVerdict → Type 0 where
  not_formed : well_formed t ≡ false → PartOutcome t d terminator first last (judged_as bad_table)
  no_number : well_formed t ≡ true → (IsNumber terminator → ⊥) → PartOutcome t d terminator first last no_terminator
  -- all records are ended and sound: their count
  all_sound : (rs : List (List ℕ)) → SoundIn t d terminator first rs over
      → PartOutcome t d terminator first last (judged_as (sound_with (length rs)))
  -- more of the file follows: a record that the part ends without is left alone, in the last part it is refused
  left_alone : (rs : List (List ℕ)) (r : List ℕ) → last ≡ 0 → SoundIn t d terminator first rs (unended r)
      → PartOutcome t d terminator first last (judged_as (sound_with (length rs)))
  not_ended : (rs : List (List ℕ)) (r : List ℕ) → (last ≡ 0 → ⊥) → SoundIn t d terminator first rs (unended r)
      → PartOutcome t d terminator first last (judged_as (fault_in (length rs + 1) (refused 30)))
  other_length : (rs : List (List ℕ)) (r : List ℕ) (rest : Records) → SoundIn t d terminator first rs (record_and r rest)
      → (length r ≡ first → ⊥) → PartOutcome t d terminator first last (judged_as (fault_in (length rs + 1) (refused 31)))
  record_fault : (rs : List (List ℕ)) (r : List ℕ) (rest : Records) → SoundIn t d terminator first rs (record_and r rest)
      → length r ≡ first → (verdict_of t r ≡ sound → ⊥)
      → PartOutcome t d terminator first last (judged_as (fault_in (length rs + 1) (verdict_of t r)))
