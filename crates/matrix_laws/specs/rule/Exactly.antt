-- Which answer exactly when, for the matrix of a sound file of so many records by a table of so many columns, with room for so many bytes.
use Rattle.std.specs.Prelude.{◌≡◌, ℕ, ◌≤◌, ◌<◌}
use Rattle.files.specs.rule.File.{FileVerdict, sound_with, bad_table, fault_in}
use Rattle.matrix.specs.rule.Bytes.{total_of}
use Rattle.matrices.specs.rule.Matrix.{MatrixVerdict, refused, written}

-- 20, or a record at fault
unfoldable pub Refusal : FileVerdict → Type 0
Refusal (sound_with n) = ⊥
Refusal bad_table = Unit {0}
Refusal (fault_in n v) = Unit {0}

pub data SizeOutcome (records columns room : ℕ) : MatrixVerdict → Type 0 where
  no_column : columns ≡ 0 → SizeOutcome records columns room (refused 80)
  too_large : (columns ≡ 0 → ⊥) → 16777216 < total_of records columns → SizeOutcome records columns room (refused 81)
  short_room : (columns ≡ 0 → ⊥) → total_of records columns ≤ 16777216 → room < total_of records columns
      → SizeOutcome records columns room (refused 82)
  all_written : (columns ≡ 0 → ⊥) → total_of records columns ≤ 16777216 → total_of records columns ≤ room
      → SizeOutcome records columns room (written (total_of records columns) records columns)
