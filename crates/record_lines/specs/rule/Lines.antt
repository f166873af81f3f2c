-- The lines of an export (document 02, C-16): "one line a record"; "the first faulty record ends the export: the lines before it stay,
-- nothing
-- of it is written".
use Rattle.std.specs.Prelude.{List, [], ◌∷◌, ℕ, zero, suc, ◌-◌, ℤ}
use Rattle.sound.specs.rule.Rows.{rows_of}
use Rattle.cuts.specs.rule.Records.{Records, over, unended, record_and}
use Rattle.files.specs.rule.File.{FileVerdict, sound_with, bad_table, fault_in}
use Rattle.commas.specs.rule.Csv.{each}
use Rattle.value_fields.specs.rule.Values.{row_field}

-- how many records come before the first fault of a file
unfoldable pub sound_before : FileVerdict → ℕ
sound_before (sound_with n) = n
sound_before bad_table = 0
sound_before (fault_in n v) = n - 1

-- a record's line: a field for each row of the table
unfoldable pub record_line : List ℤ → List ℕ → List (List ℕ)
record_line t r = each (row_field t r) 0 (rows_of t)

-- the lines of the first n records that have a terminator
unfoldable pub records_lines : List ℤ → ℕ → Records → List (List (List ℕ))
records_lines t zero rs = []
records_lines t (suc n) over = []
records_lines t (suc n) (unended r) = []
records_lines t (suc n) (record_and r rs) = record_line t r ∷ records_lines t n rs
