-- The text of an export (document 02, C-16): "one line of decoded names, one line a record". "The first faulty record ends the export: the
-- lines
-- before it stay, nothing of it is written, and its refusal and record are answered. Output past the text is kept." "60 the text before any
-- fault does not fit".
use Rattle.std.specs.Prelude.{cond, List, ◌∷◌, ◌++◌, ℕ, leb, ℤ, length, drop}
use Rattle.cuts.specs.rule.Records.{Records, records_of}
use Rattle.sound.specs.rule.Rows.{rows_of}
use Rattle.files.specs.rule.File.{FileVerdict, file_said, file_verdict}
use Rattle.commas.specs.rule.Csv.{csv_bytes}
use Rattle.name_line.specs.rule.Names.{name_line}
use Rattle.record_lines.specs.rule.Lines.{sound_before, records_lines}
use Rattle.exports.specs.declared.Export.{Export}
use Rattle.exports.specs.declared.Export.TheVariants as E

-- the names, and the lines of the first n records
unfoldable pub lines_with : List ℕ → List ℤ → ℕ → Records → List (List (List ℕ))
lines_with def t n rs = name_line def t (rows_of t) ∷ records_lines t n rs

-- the lines of an export: its records are those before the first fault
unfoldable pub export_lines : List ℕ → List ℤ → List ℕ → List (List (List ℕ))
export_lines def t d = lines_with def t (sound_before (file_verdict t d)) (records_of d)

-- THE TEXT
unfoldable pub export_text : List ℕ → List ℤ → List ℕ → List ℕ
export_text def t d = csv_bytes (export_lines def t d)

-- ---- the answer
-- a number alone; or what judge_file says of the data, and the length of the text
pub data ExportVerdict : Type 0 where
  refused : ℕ → ExportVerdict
  written : FileVerdict → ℕ → ExportVerdict

-- document 02's numbers for each case of the answer
unfoldable pub export_said : Export → ExportVerdict
export_said E.BadTable = refused 20
export_said E.OtherTable = refused 40
export_said E.ShortRoom = refused 60
export_said (E.Written j n) = written (file_said j) n

-- a text in so much room
unfoldable pub fitted : FileVerdict → List ℕ → ℕ → ExportVerdict
fitted v s room = cond (leb (length s) room) (written v (length s)) (refused 60)

-- the output afterwards: the text and what stood behind it, or as it was
unfoldable pub export_after : ExportVerdict → List ℕ → List ℕ → List ℕ
export_after (refused k) s out = out
export_after (written v n) s out = s ++ drop (length s) out
