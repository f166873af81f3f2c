-- AS MANY LINES as records before the first fault, and one for the names; and which line is which record's.
-- Assumes nothing.
use Rattle.std.specs.Prelude.{◌≡◌, refl, true, List, [], ℕ, zero, suc, ◌+◌, ◌-◌, ◌≤◌, ◌<◌, ℤ, length, get_or}
use Rattle.std.proofs.Common.{ap, arith}
use Rattle.cuts.specs.rule.Records.{Records, over, unended, record_and, records_of}
use Rattle.sound.specs.rule.Sound.{well_formed}
use Rattle.records.specs.rule.Verdict.{Verdict, sound, refused, low_byte, bad_field}
use Rattle.files.specs.rule.File.{FileVerdict, file_verdict, record_verdict, go_on, first_length, records_verdict}
use Rattle.record_lines.specs.rule.Lines.{sound_before, record_line, records_lines}
use Rattle.exports.specs.rule.Text.{lines_with, export_lines}

-- so many records are there, each with its line
abbrev Counted : List ℤ → ℕ → ℕ → Records → Type 0
Counted t n b rs = (n ≤ b) × (length (records_lines t (b - n) rs) ≡ b - n)

none : (t : List ℤ) (m : ℕ) (rs : Records) → m ≡ 0 → length (records_lines t m rs) ≡ m
unfolding records_lines
none t m rs e = rw e

counted : (t : List ℤ) (rs : Records) (n first : ℕ) → Counted t n (sound_before (records_verdict t n first rs)) rs
unfolding records_verdict sound_before go_on records_lines
counted t over n first = (omega arith, none t (n - n) over (omega arith))
counted t (unended r) n first = (omega arith, none t (n + 1 - 1 - n) (unended r) (omega arith))
counted t (record_and r rs) n first =
    let f = first_length n first (length r) in go (record_verdict t f r) (records_verdict t (n + 1) f rs) (counted t rs (n + 1) f)
  where
    stop : (m : ℕ) → m ≡ n + 1 - 1 → Counted t n m (record_and r rs)
    stop m e = (omega arith, none t (m - n) (record_and r rs) (omega arith))

    step : (b : ℕ) → Counted t (n + 1) b rs → Counted t n b (record_and r rs)
    step b h = let e : b - n ≡ suc (b - (n + 1)) = omega (arith, h.0) in (omega (arith, h.0), rw e (ap suc h.1))

    go : (v : Verdict) (rest : FileVerdict) → Counted t (n + 1) (sound_before rest) rs
        → Counted t n (sound_before (go_on v n rest)) (record_and r rs)
    go sound rest h = step (sound_before rest) h
    go (refused k) rest h = stop (n + 1 - 1) refl
    go (low_byte p) rest h = stop (n + 1 - 1) refl
    go (bad_field i x) rest h = stop (n + 1 - 1) refl

pub export_lines_lem : (def : List ℕ) (t : List ℤ) (d : List ℕ) → well_formed t ≡ true
    → length (export_lines def t d) ≡ suc (sound_before (file_verdict t d))
unfolding export_lines lines_with file_verdict
export_lines_lem def t d g =
    let n = sound_before (records_verdict t 0 0 (records_of d)) in
    let e : n - 0 ≡ n = omega arith in
    rw g (ap suc (rw e at (counted t (records_of d) 0 0).1))

-- ---- WHICH LINE IS WHICH RECORD'S
-- record k of a file, from 0, which has its terminator
pub data Nth : ℕ → Records → List ℕ → Type 0 where
  this : {r : List ℕ} {rs : Records} → Nth 0 (record_and r rs) r
  later : {k : ℕ} {q r : List ℕ} {rs : Records} → Nth k rs r → Nth (suc k) (record_and q rs) r

line_is : (t : List ℤ) {k : ℕ} {rs : Records} {r : List ℕ} → Nth k rs r → (n : ℕ) → k < n → get_or (records_lines t n rs) k []
    ≡ record_line t r
unfolding records_lines
line_is t x zero h = absurd (omega arith)
line_is t this (suc n) h = refl
line_is t (later x) (suc n) h = line_is t x n (omega arith)

-- behind the names, line k of an export is that of record k
pub export_line : (def : List ℕ) (t : List ℤ) (d : List ℕ) {k : ℕ} {r : List ℕ} → Nth k (records_of d) r → k
    < sound_before (file_verdict t d)
    → get_or (export_lines def t d) (suc k) [] ≡ record_line t r
unfolding export_lines lines_with
export_line def t d x h = line_is t x (sound_before (file_verdict t d)) h
