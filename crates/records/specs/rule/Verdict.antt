-- What judging a whole record answers: refusals 20, 22, 23 with the byte's place, and 241, 242 or 243 with the lowest row that has a
-- fault, and its place or number.
use Rattle.std.specs.Prelude.{◌≡◌, cond, List, ℕ, leb, ℤ, length, Option, Some, None}
use Rattle.sound.specs.rule.Sound.{well_formed}
use Rattle.sound.specs.rule.Rows.{rows_of, length_of}
use Rattle.lows.specs.rule.Lows.{low_at}
use Rattle.faults.specs.rule.Fault.{fault_number}
use Rattle.faults.specs.declared.Fault.{Fault}
use Rattle.records.specs.rule.First.{first_from, bad_row, row_fault}
use Rattle.records.specs.declared.Judged.{Judged}
use Rattle.records.specs.declared.Judged.TheVariants as judged

pub data Verdict : Type 0 where
  sound : Verdict
  -- with nothing beside the number
  refused : ℕ → Verdict
  -- "23 comes with the byte's place", a field's fault with the lowest row
  low_byte : ℕ → Verdict
  bad_field : ℕ → Fault → Verdict

-- document 01's number of a verdict, 0 for a sound record
unfoldable pub verdict_number : Verdict → ℕ
verdict_number sound = 0
verdict_number (refused k) = k
verdict_number (low_byte p) = 23
verdict_number (bad_field i x) = fault_number x

-- the verdict of each case of the answer
unfoldable pub judged_as : Judged → Verdict
judged_as judged.Sound = sound
judged_as judged.BadTable = refused 20
judged_as judged.ShortRecord = refused 22
judged_as (judged.LowByte p) = low_byte p
judged_as (judged.Faulty i x) = bad_field i x

-- by the lowest illegal row, and what is wrong with each
unfoldable pub row_verdict : (ℕ → Fault) → Option ℕ → Verdict
row_verdict fault (Some i) = bad_field i (fault i)
row_verdict fault None = sound

unfoldable pub byte_verdict : Option ℕ → Verdict → Verdict
byte_verdict (Some p) v = low_byte p
byte_verdict None v = v

-- a record that is long enough, by a table of v rows
unfoldable pub rows_verdict : List ℤ → ℕ → List ℕ → Verdict
rows_verdict t v bytes =
    byte_verdict (first_from (low_at bytes) 0 (length bytes)) (row_verdict (row_fault t v bytes) (first_from (bad_row t v bytes) 0 v))

-- THE VERDICT on a record by a table
unfoldable pub verdict_of : List ℤ → List ℕ → Verdict
verdict_of t bytes =
    cond (well_formed t) (cond (leb (length_of t) (length bytes)) (rows_verdict t (rows_of t) bytes) (refused 22)) (refused 20)

-- THE PROMISE of the call
pub record RecordJudged (t : List ℤ) (bytes : List ℕ) (v : Verdict) : Type 0 where
  pub says : v ≡ verdict_of t bytes
