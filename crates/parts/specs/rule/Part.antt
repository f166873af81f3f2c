-- A part of a data file that begins where a record does, judged by the number of the file's terminator and the length of the file's first
-- record. Its records are judged as the file's are, and counted in the part. Where more of the file follows, a record that the part ends
-- without is left alone: it belongs to the next part.
use Rattle.std.specs.Prelude.{◌≡◌, Bool, cond, not, List, ℕ, ◌+◌, eqb, ℤ}
use Rattle.cuts.specs.declared.Terminator.{Terminator}
use Rattle.cuts.specs.rule.Cut.{one_byte, two_bytes, no_ending}
use Rattle.cuts.specs.rule.Records.{Records, over, unended, record_and, records_from}
use Rattle.sound.specs.rule.Sound.{well_formed}
use Rattle.records.specs.rule.Verdict.{refused}
use Rattle.files.specs.rule.File.{FileVerdict, sound_with, bad_table, fault_in, file_said, record_verdict, go_on}
use Rattle.parts.specs.declared.Part.{Part}
use Rattle.parts.specs.declared.Part.TheVariants as P

-- the terminator of a number: 1 CR LF, 2 LF CR, 3 CR, 4 LF; no other number has one
unfoldable pub numbered : ℕ → Terminator
numbered k =
    cond (eqb k 1) (two_bytes 13 10) (cond (eqb k 2) (two_bytes 10 13)
    (cond (eqb k 3) (one_byte 13 10) (cond (eqb k 4) (one_byte 10 13) no_ending)))

-- the records of a part, n of it before them, in a file whose first record has `first` bytes: each 31, 22, 23, its fields; a record without
-- its
-- terminator is 30 in the last part
unfoldable pub part_records : List ℤ → ℕ → ℕ → Bool → Records → FileVerdict
part_records t n first last over = sound_with n
part_records t n first last (unended r) = cond last (fault_in (n + 1) (refused 30)) (sound_with n)
part_records t n first last (record_and r rs) = go_on (record_verdict t first r) n (part_records t (n + 1) first last rs)

-- what a part is judged to be: 29 where the number is no terminator's, else as a file is
pub data PartVerdict : Type 0 where
  no_terminator : PartVerdict
  judged_as : FileVerdict → PartVerdict

-- the numbers and values for each case of the answer
unfoldable pub part_said : Part → PartVerdict
part_said P.NoTerminator = no_terminator
part_said (P.Judged j) = judged_as (file_said j)

-- THE VERDICT on a part by a table: 20, 29, and then its records; a `last` of 0 says that more follows
unfoldable pub part_verdict : List ℤ → List ℕ → ℕ → ℕ → ℕ → PartVerdict
part_verdict t d terminator first last =
    cond (well_formed t)
    (cond (eqb (numbered terminator).size 0) no_terminator
    (judged_as (part_records t 0 first (not (eqb last 0)) (records_from (numbered terminator) d))))
    (judged_as bad_table)

-- THE PROMISE of the call
pub record PartJudged (t : List ℤ) (d : List ℕ) (terminator first last : ℕ) (v : PartVerdict) : Type 0 where
  pub says : v ≡ part_verdict t d terminator first last
