-- THE ROUND TRIP, by the calls' own words: what the import says of an export's text.
-- Assumes nothing.
use Rattle.std.specs.Prelude.{◌≡◌, List, ◌∷◌, ℕ, ℤ, length}
use Rattle.std.proofs.Common.{arith}
use Rattle.cuts.specs.rule.Records.{over, records_of}
use Rattle.sound.specs.rule.Rows.{rows_of}
use Rattle.sound.specs.Rows.{parts}
use Rattle.files.specs.rule.File.{FileVerdict, sound_with, file_verdict}
use Rattle.file_laws.specs.rule.Files.{records_before, SoundBefore, FileOutcome, not_formed, all_sound, not_ended, other_length}
use Rattle.file_laws.specs.rule.Files.{record_fault}
use Rattle.file_laws.specs.Files.{file_named}
use Rattle.commas.specs.rule.Csv.{each}
use Rattle.name_line.specs.rule.Names.{name_line}
use Rattle.name_line.specs.Names.{name_at}
use Rattle.record_lines.specs.rule.Lines as lines
use Rattle.exports.specs.rule.Text.{lines_with, export_lines, export_text}
use Rattle.imports.specs.rule.Import.{import_says}
use Rattle.import_laws.specs.rule.Trip.{Table, Returned}
use Rattle.import_laws.specs.Round.{round_trip}

-- the records of a file that was found sound
pub sound_before : (t : List ℤ) (d : List ℕ) {n : ℕ} {A : Type 0} → file_verdict t d ≡ sound_with n
    → ((rs : List (List ℕ)) → SoundBefore t d rs over → n ≡ length rs → A) → A
sound_before t d {n} {A} e k = go (file_named t d) e
  where
    go : {v : FileVerdict} → FileOutcome t d v → v ≡ sound_with n → A
    go (not_formed x) w = let z : ◌≡◌ {A = ℕ} 0 1 = cc in absurd (omega arith)
    go (all_sound rs b) w = k rs b cc
    go (not_ended rs r b) w = let z : ◌≡◌ {A = ℕ} 0 1 = cc in absurd (omega arith)
    go (other_length rs r rest b x) w = let z : ◌≡◌ {A = ℕ} 0 1 = cc in absurd (omega arith)
    go (record_fault rs r rest b x y) w = let z : ◌≡◌ {A = ℕ} 0 1 = cc in absurd (omega arith)

-- the export of a sound file: its names, and its records' lines
pub sound_lines : (def : List ℕ) (t : List ℤ) (d : List ℕ) (rs : List (List ℕ)) {n : ℕ} → file_verdict t d ≡ sound_with n → n ≡ length rs
    → records_of d ≡ records_before rs over → export_lines def t d ≡ each (name_at def t) 0 (rows_of t)
    ∷ lines.records_lines t (length rs) (records_before rs over)
unfolding export_lines lines_with lines.sound_before name_line
sound_lines def t d rs e f g = rw (e, f, g)

pub import_export : (def : List ℕ) {t : List ℤ} (d : List ℕ) {n : ℕ} → Table t → file_verdict t d ≡ sound_with n → Returned def t d
unfolding import_says export_text name_line
import_export def {t} d g e =
    sound_before t d e (λ rs b m.
    let w = round_trip g (parts t g.formed).some_rows (name_at def t) rs b.all in
    record { originals = rs; are = b.records; imported = rw (sound_lines def t d rs e m b.records) w })
