-- Which answer exactly when (document 02, C-16): "Refusals: 20, then 40 as in C-11, a refused definition included, then 60 the text before
-- any
-- fault does not fit". Else what the data are judged to be, whatever that is, with the text's length.
use Rattle.std.specs.Prelude.{◌≡◌, true, false, List, ℕ, ◌≤◌, ◌<◌, ℤ, length}
use Rattle.sound.specs.rule.Sound.{well_formed}
use Rattle.files.specs.rule.File.{file_verdict}
use Rattle.kinds.specs.rule.Against.{yields}
use Rattle.exports.specs.rule.Text.{export_text, ExportVerdict, refused, written}

pub data ExportOutcome (def : List ℕ) (t : List ℤ) (d : List ℕ) (room : ℕ) : ExportVerdict → Type 0 where
  bad_table_lem : well_formed t ≡ false → ExportOutcome def t d room (refused 20)
  other_table : well_formed t ≡ true → yields def t ≡ false → ExportOutcome def t d room (refused 40)
  short_room : well_formed t ≡ true → yields def t ≡ true → room < length (export_text def t d) → ExportOutcome def t d room (refused 60)
  all_written : well_formed t ≡ true → yields def t ≡ true → length (export_text def t d) ≤ room
      → ExportOutcome def t d room (written (file_verdict t d) (length (export_text def t d)))
