-- "After 20, each record is judged 30, 31, 22, 23" and by its fields (241, 242, 243), in the file's order, up to the first fault. A fault
-- names the record, from 1, the byte's place in the record for 23, the row and what is wrong with it for a field; a file without one, the
-- count of its records.
use Rattle.std.specs.Prelude.{◌≡◌, Bool, true, false, cond, List, ℕ, ◌+◌, eqb, leb, ℤ, length}
use Rattle.cuts.specs.rule.Records.{Records, over, unended, record_and, records_of}
use Rattle.sound.specs.rule.Sound.{well_formed}
use Rattle.sound.specs.rule.Rows.{rows_of, length_of}
use Rattle.records.specs.rule.Verdict.{Verdict, sound, refused, low_byte, bad_field, rows_verdict, judged_as}
use Rattle.files.specs.declared.Judgement.{Judgement}
use Rattle.files.specs.declared.Judgement.TheVariants as J

-- what a file is judged to be: sound, with so many records; a table that is not well formed; or record n refused
pub data FileVerdict : Type 0 where
  sound_with : ℕ → FileVerdict
  bad_table : FileVerdict
  fault_in : ℕ → Verdict → FileVerdict

-- document 01's numbers and values for each case of the answer
unfoldable pub file_said : Judgement → FileVerdict
file_said (J.Sound n) = sound_with n
file_said J.BadTable = bad_table
file_said (J.Unended n) = fault_in n (refused 30)
file_said (J.OtherLength n) = fault_in n (refused 31)
file_said (J.Fault n j) = fault_in n (judged_as j)

-- one record with a terminator, in a file whose first record has `first` bytes: 31, 22, 23, its fields
unfoldable pub record_verdict : List ℤ → ℕ → List ℕ → Verdict
record_verdict t first r =
    cond (eqb (length r) first) (cond (leb (length_of t) (length r)) (rows_verdict t (rows_of t) r) (refused 22)) (refused 31)

-- the file goes on after a record that is sound, and ends at one that is not: n records came before it
unfoldable pub go_on : Verdict → ℕ → FileVerdict → FileVerdict
go_on sound n rest = rest
go_on (refused k) n rest = fault_in (n + 1) (refused k)
go_on (low_byte p) n rest = fault_in (n + 1) (low_byte p)
go_on (bad_field i x) n rest = fault_in (n + 1) (bad_field i x)

-- the length of the first record, once it is known
unfoldable pub first_length : ℕ → ℕ → ℕ → ℕ
first_length n first len = cond (eqb n 0) len first

-- the records after n others, of which the first has `first` bytes: "last record has no terminator" is 30
unfoldable pub records_verdict : List ℤ → ℕ → ℕ → Records → FileVerdict
records_verdict t n first over = sound_with n
records_verdict t n first (unended r) = fault_in (n + 1) (refused 30)
records_verdict t n first (record_and r rs) =
    go_on (record_verdict t (first_length n first (length r)) r) n (records_verdict t (n + 1) (first_length n first (length r)) rs)

-- THE VERDICT on a file by a table
unfoldable pub file_verdict : List ℤ → List ℕ → FileVerdict
file_verdict t d = cond (well_formed t) (records_verdict t 0 0 (records_of d)) bad_table

-- THE PROMISE of the call
pub record FileJudged (t : List ℤ) (d : List ℕ) (v : FileVerdict) : Type 0 where
  pub says : v ≡ file_verdict t d

-- whether a record's verdict is sound
unfoldable pub is_sound : Verdict → Bool
is_sound sound = true
is_sound (refused k) = false
is_sound (low_byte p) = false
is_sound (bad_field i x) = false
