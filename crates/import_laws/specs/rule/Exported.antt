-- A text that is an export, needless quotes aside and but for zeros cut from the end of a number's decimals (document 02, C-23).
use Rattle.std.specs.Prelude.{◌≡◌, List, [], ◌∷◌, ℕ, ◌+◌, ℤ}
use Rattle.layout.specs.rule.Row.{row_at}
use Rattle.sound.specs.rule.Rows.{length_of}
use Rattle.cuts.specs.rule.Records.{over, records_of}
use Rattle.files.specs.rule.File.{sound_with, file_verdict}
use Rattle.file_laws.specs.rule.Files.{records_before, AllSound}
use Rattle.widths.specs.rule.Width.{decimals_of}
use Rattle.field_values.specs.rule.Value.{Left}
use Rattle.csv_laws.specs.rule.Grammar.{IsText}
use Rattle.exports.specs.rule.Text.{export_lines}
use Rattle.import_rule.specs.rule.Text.{accepts}
use Rattle.imports.specs.rule.Import.{import_says}

-- fields of the rows from i on, each what is left of export's
pub data FieldsLeft (t : List ℤ) : ℕ → List (List ℕ) → List (List ℕ) → Type 0 where
  no_field : {i : ℕ} → FieldsLeft t i [] []
  and_field : {i : ℕ} {e f : List ℕ} {es fs : List (List ℕ)} → Left (decimals_of (row_at t i).kind) e f → FieldsLeft t (i + 1) es fs
      → FieldsLeft t i (e ∷ es) (f ∷ fs)

-- lines of such fields
pub data LinesLeft (t : List ℤ) : List (List (List ℕ)) → List (List (List ℕ)) → Type 0 where
  no_line : LinesLeft t [] []
  and_line : {es fs : List (List ℕ)} {ls ms : List (List (List ℕ))} → FieldsLeft t 0 es fs → LinesLeft t ls ms
      → LinesLeft t (es ∷ ls) (fs ∷ ms)

-- the same names, and such lines
pub data TextLeft (t : List ℤ) : List (List (List ℕ)) → List (List (List ℕ)) → Type 0 where
  and_names : {names : List (List ℕ)} {ls ms : List (List (List ℕ))} → LinesLeft t ls ms → TextLeft t (names ∷ ls) (names ∷ ms)

-- THE TEXT s IS THE EXPORT of the data d, these aside
pub record IsExport (def : List ℕ) (t : List ℤ) (d s : List ℕ) : Type 0 where
  pub lines : List (List (List ℕ))
  pub spelt : IsText lines s
  pub left : TextLeft t (export_lines def t d) lines

-- a sound file of records of L bytes whose export it is
pub record Original (def : List ℕ) (t : List ℤ) (s : List ℕ) : Type 0 where
  pub file : List ℕ
  pub count : ℕ
  pub judged : file_verdict t file ≡ sound_with count
  pub records : List (List ℕ)
  pub are : records_of file ≡ records_before records over
  pub sized : AllSound t (length_of t) records
  pub exported : IsExport def t file s

-- a text that is accepted
pub record Accepts (def : List ℕ) (t : List ℤ) (s : List ℕ) : Type 0 where
  pub records : List (List ℕ)
  pub is : import_says def t s ≡ accepts records
