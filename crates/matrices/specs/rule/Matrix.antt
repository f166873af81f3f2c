-- A data file as a matrix of 64-bit floats: header, summaries, presence bytes, values. "Presence .. and values .. run record by record in
-- column order; the parts adjoin". Refusals: "20, the file's own by its first faulty record, 80 no column at all, 81 total above 16,777,216
-- bytes, 82 output too short, in that order; output is then unchanged".
use Rattle.std.specs.Prelude.{◌≡◌, cond, List, [], ◌∷◌, ◌++◌, ℕ, eqb, ltb, ℤ, length}
use Rattle.cuts.specs.rule.Records.{Records, over, unended, record_and, records_of}
use Rattle.sound.specs.rule.Rows.{rows_of}
use Rattle.files.specs.rule.File.{FileVerdict, sound_with, bad_table, fault_in, file_said, file_verdict}
use Rattle.little.specs.rule.Bytes.{put_at}
use Rattle.summary.specs.rule.Summary.{summary_of}
use Rattle.matrix.specs.declared.Entry.{Entry}
use Rattle.matrix.specs.rule.Entry.{flags_of, value_bytes, present_of}
use Rattle.matrix.specs.rule.Bytes.{total_of, header_bytes, summary_bytes}
use Rattle.columns.specs.rule.Columns.{Column, columns_from, entry_of, entries_of}
use Rattle.matrices.specs.declared.Matrix.{Matrix}
use Rattle.matrices.specs.declared.Matrix.TheVariants as M

-- the records that have their terminator: in a sound file, all
unfoldable pub ended_of : Records → List (List ℕ)
ended_of over = []
ended_of (unended r) = []
ended_of (record_and r rs) = r ∷ ended_of rs

-- the columns of a table
abbrev pub table_columns : List ℤ → List Column
table_columns t = columns_from t (rows_of t) 0 (rows_of t)

-- ---- the parts
-- the entries record by record, in column order
unfoldable pub matrix_entries : List ℤ → ℕ → List Column → List (List ℕ) → List Entry
matrix_entries t v cs [] = []
matrix_entries t v cs (r ∷ rs) = entries_of t v r cs ++ matrix_entries t v cs rs

-- a column's entries, record by record
unfoldable pub column_entries : List ℤ → ℕ → Column → List (List ℕ) → List Entry
column_entries t v c [] = []
column_entries t v c (r ∷ rs) = entry_of t v r c ∷ column_entries t v c rs

-- the columns' summaries, each of the values that are present
unfoldable pub summaries_of : List ℤ → ℕ → List (List ℕ) → List Column → List ℕ
summaries_of t v rs [] = []
summaries_of t v rs (c ∷ cs) = summary_bytes (summary_of (present_of (column_entries t v c rs))) ++ summaries_of t v rs cs

-- THE MATRIX of records
unfoldable pub matrix_of : List ℤ → List (List ℕ) → List ℕ
matrix_of t rs =
    let cs = table_columns t in
    let es = matrix_entries t (rows_of t) cs rs in
    header_bytes (length rs) (length cs) ++ (summaries_of t (rows_of t) rs cs ++ (flags_of es ++ value_bytes es))

-- ---- the call
-- what is answered: the file's own refusal, a number, or the total length with the counts of records and columns
pub data MatrixVerdict : Type 0 where
  refused_as : FileVerdict → MatrixVerdict
  refused : ℕ → MatrixVerdict
  written : ℕ → ℕ → ℕ → MatrixVerdict

-- document 02's numbers for each case of the answer
unfoldable pub matrix_said : Matrix → MatrixVerdict
matrix_said (M.Refused j) = refused_as (file_said j)
matrix_said M.NoColumn = refused 80
matrix_said M.TooLarge = refused 81
matrix_said M.ShortRoom = refused 82
matrix_said (M.Written n r c) = written n r c

-- so many records and columns, with room for so many bytes: 80, 81, 82
unfoldable pub size_verdict : ℕ → ℕ → ℕ → MatrixVerdict
size_verdict records columns room =
    cond (eqb columns 0) (refused 80)
    (cond (ltb 16777216 (total_of records columns)) (refused 81)
    (cond (ltb room (total_of records columns)) (refused 82) (written (total_of records columns) records columns)))

unfoldable pub verdict_after : List ℤ → ℕ → FileVerdict → MatrixVerdict
verdict_after t room (sound_with n) = size_verdict n (length (table_columns t)) room
verdict_after t room bad_table = refused_as bad_table
verdict_after t room (fault_in n v) = refused_as (fault_in n v)

-- THE VERDICT
unfoldable pub matrix_verdict : List ℤ → List ℕ → ℕ → MatrixVerdict
matrix_verdict t d room = verdict_after t room (file_verdict t d)

-- the output afterwards: the matrix at its start, or as it was
unfoldable pub matrix_after : MatrixVerdict → List ℕ → List ℕ → List ℕ
matrix_after (refused_as v) m out = out
matrix_after (refused k) m out = out
matrix_after (written n r c) m out = put_at out 0 m

-- THE PROMISE of the call
pub record MatrixWritten (t : List ℤ) (d out out' : List ℕ) (v : MatrixVerdict) : Type 0 where
  pub says : v ≡ matrix_verdict t d (length out)
  pub leaves : out' ≡ matrix_after (matrix_verdict t d (length out)) (matrix_of t (ended_of (records_of d))) out
