-- What follows from rule/Text.antt, and what the code keeps.
use Rattle.std.specs.Prelude.{◌≡◌, true, false, List, ◌++◌, ℕ, ◌+◌, ◌-◌, ◌*◌, ◌/◌, ◌≤◌, ◌<◌, leb, ℤ, length}
use Rattle.std.specs.Prelude.{drop}
use Rattle.std.proofs.Common.{sym, ◌∙◌, ⊎_elim, le-div_iff_mul-le, arith, le-leb, length-append}
use Rattle.std.proofs.lemmas.Bool.{lt-leb}
use Rattle.below.specs.Below.{lt_or_le}
use Rattle.cuts.specs.rule.Cut.{Found}
use Rattle.cuts.specs.rule.Records.{Records, records_from, records_of}
use Rattle.cuts.specs.declared.Terminator.{Terminator}
use Rattle.layout.specs.rule.Layout.{row_base, most_rows}
use Rattle.layout.specs.declared.Header.{Header}
use Rattle.sound.specs.rule.Sound.{well_formed}
use Rattle.sound.specs.rule.Rows.{length_of}
use Rattle.records.specs.Tables.{table_ready}
use Rattle.files.specs.rule.File.{FileVerdict, file_verdict, records_verdict}
use Rattle.files.specs.rule.Tested.{Tested}
use Rattle.files.specs.Tested.{tested_rows}
use Rattle.sink.specs.rule.Sent.{Sent}
use Rattle.sink.specs.Sent.{sets_front}
use Rattle.commas.specs.rule.Csv.{line_bytes, csv_bytes}
use Rattle.name_line.specs.rule.Names.{name_line}
use Rattle.record_lines.specs.rule.Lines.{sound_before, records_lines}
use Rattle.record_lines.specs.Lines.{SoundFirst, verdict_sound}
use Rattle.exports.specs.rule.Text.{lines_with, export_lines, export_text, ExportVerdict, refused, written, fitted, export_after}

-- the text of the names and the first n records
abbrev pub text_with : List ℕ → List ℤ → ℕ → Records → List ℕ
text_with def t n rs = csv_bytes (lines_with def t n rs)

-- ---- a tested table's rows stand in it
pub rows_stand : {t : List ℤ} {h : Header} → Tested t h → (h.rows ≤ most_rows) × (row_base h.rows ≤ length t)
rows_stand {t} {h} g =
    let r = table_ready t g.good (length_of t) (omega arith) in
    let f = r.few in let s = r.stand in let e = tested_rows g in
    (omega arith, omega arith)

-- ---- the text by its parts
pub names_and : {t : List ℤ} {h : Header} → Tested t h → (def : List ℕ) (n : ℕ) (rs : Records)
    → line_bytes (name_line def t h.rows) ++ csv_bytes (records_lines t n rs) ≡ text_with def t n rs
unfolding lines_with csv_bytes
names_and g def n rs = rw (tested_rows g)

-- ---- the records before the first fault
pub before_sound : (t : List ℤ) (d : List ℕ) → well_formed t ≡ true → SoundFirst t (sound_before (file_verdict t d)) (records_of d)
unfolding file_verdict
before_sound t d g =
    let n = sound_before (records_verdict t 0 0 (records_of d)) in
    let e : n - 0 ≡ n = omega arith in
    rw g (rw e at (verdict_sound t (records_of d) 0 0).1)

-- so many records as come before the fault that was told
module _ (t : List ℤ) (d : List ℕ) {n : ℕ} {v : FileVerdict} (e : n ≡ sound_before v) (f : v ≡ file_verdict t d) where
  pub told_sound : {h : Header} → Tested t h → SoundFirst t n (records_of d)
  told_sound g = rw (e, f) (before_sound t d g.good)

  pub told_text : (def : List ℕ) → text_with def t n (records_of d) ≡ export_text def t d
  unfolding export_text export_lines
  told_text def = rw (e, f)

pub found_records : {d : List ℕ} {w : Terminator} → Found d w → records_from w d ≡ records_of d
unfolding records_of
found_records f = rw f.is

-- ---- sent from the start of the buffer
-- what was measured is below the bound exactly where the text has room
pub measured : (room : ℕ) {r : ℕ} {out out' s : List ℕ} → Sent (room + 1) out 0 s out' r → leb r room ≡ leb (length s) room
measured room {r} {s = s} a =
    ⊎_elim
    (λ k. let x = a.beyond (omega arith) in lt-leb r room (omega arith) ∙ sym (lt-leb (length s) room k))
    (λ k. let x = a.within (omega arith) in le-leb r room (omega arith) ∙ sym (le-leb (length s) room k))
    (lt_or_le room (length s))

-- the names alone are too long, or their length is known
module _ (room : ℕ) {r : ℕ} {out out' s : List ℕ} (a : Sent (room + 1) out 0 s out' r) where
  names_known : r ≤ room → r ≡ length s
  names_known h =
      ⊎_elim
      (λ k. let x = a.beyond (omega arith) in absurd (omega arith))
      (λ k. let x = a.within (omega arith) in omega arith)
      (lt_or_le room (length s))

  pub names_long : (u : List ℕ) → room < r → false ≡ leb (length (s ++ u)) room
  names_long u h =
      let l = length-append s u in
      ⊎_elim
      (λ k. sym (lt-leb (length (s ++ u)) room (omega arith)))
      (λ k. let x = a.within (omega arith) in absurd (omega arith))
      (lt_or_le room (length s))

  -- there is room for n lines of the most bytes
  pub room_enough : (u : List ℕ) (n m : ℕ) → r ≤ room → 2 ≤ m → n ≤ (room - r) / m → length u ≤ n * m → true ≡ leb (length (s ++ u)) room
  room_enough u n m h p q l =
      let e = names_known h in
      let g = length-append s u in
      let f : n * m ≤ room - r = (le-div_iff_mul-le {k = m} {x = n} {y = room - r} (omega arith)).0 q in
      sym (le-leb (length (s ++ u)) room (omega arith))

-- where it has room, it stands there, and what stood behind it is kept
pub stands : {r : ℕ} {out out' s : List ℕ} → Sent (length out + 1) out 0 s out' r → length s ≤ length out
    → (r ≡ length s) × (out' ≡ s ++ drop (length s) out)
stands {r} {out = out} {s = s} a h = let e = a.within
    (omega arith) in (omega arith, a.stored (omega arith) (omega arith) ∙ sets_front out s h)

-- ---- the answer
module _ (def : List ℕ) (t : List ℤ) (d out : List ℕ) where
  abbrev answered : ExportVerdict
  answered = fitted (file_verdict t d) (export_text def t d) (length out)

  pub too_long : leb (length (export_text def t d)) (length out) ≡ false
      → (refused 60 ≡ answered) × (out ≡ export_after answered (export_text def t d) out)
  unfolding fitted export_after
  too_long e = (rw e, rw e)

  pub all_there : {v : FileVerdict} {r : ℕ} {out' : List ℕ} → leb (length (export_text def t d)) (length out) ≡ true
      → v ≡ file_verdict t d → r ≡ length (export_text def t d) → out' ≡ export_text def t d ++ drop (length (export_text def t d)) out
      → (written v r ≡ answered) × (out' ≡ export_after answered (export_text def t d) out)
  unfolding fitted export_after
  all_there e f g k = (rw (e, f, g), rw (e, k))
