-- What follows from rule/Lines.antt, and what the code keeps.
use Rattle.std.proofs.Common.{eq-or-lt_of_le}
use Rattle.std.specs.Prelude.{◌≡◌, Bool, cond, List, [], ◌++◌, ℕ, zero, suc, ◌+◌, ◌-◌, ◌≤◌, ◌<◌, eqb, ℤ, length, Option, Some, None}
use Rattle.std.proofs.Math.Path.{refl}
use Rattle.std.proofs.Common.{⊎_elim, sym, ap, ◌∙◌, arith}
use Rattle.std.proofs.Math.Bool.{true, false}
use borrow.Author.Tests.{leb-true}
use Rattle.std.proofs.Math.Dec.{leb}
use Rattle.below.specs.Below.{holds_not}
use Rattle.sound.specs.rule.Rows.{rows_of, length_of}
use Rattle.cuts.specs.rule.Records.{Records, over, unended, record_and}
use Rattle.sets.specs.rule.Sets.{is_illegal}
use Rattle.records.proofs.Laws.{first_nowhere}
use Rattle.records.specs.rule.First.{first_from, bad_row, row_fault}
use Rattle.records.specs.rule.Value.{reading_at}
use Rattle.records.specs.rule.Verdict.{Verdict, sound, refused, low_byte, bad_field, row_verdict, byte_verdict, rows_verdict}
use Rattle.files.specs.rule.File.{FileVerdict, record_verdict, go_on, first_length, records_verdict}
use Rattle.files.specs.rule.File.{is_sound}
use Rattle.files.specs.rule.Tested.{Tested}
use Rattle.files.specs.Tested.{tested_rows}
use Rattle.layout.specs.declared.Header.{Header}
use Rattle.commas.specs.rule.Csv.{line_bytes, csv_bytes}
use Rattle.commas.specs.Csv.{line_left, left_line}
use Rattle.value_fields.specs.rule.Values.{row_field}
use Rattle.record_lines.specs.rule.Lines.{sound_before, record_line, records_lines}

-- a record that is long enough, and in which every row is legal
pub record SoundRecord (t : List ℤ) (r : List ℕ) : Type 0 where
  pub long : length_of t ≤ length r
  pub legal : (i : ℕ) → i < rows_of t → is_illegal (reading_at t i r) ≡ false

-- the first n records are
unfoldable pub SoundFirst : List ℤ → ℕ → Records → Type 0
SoundFirst t zero rs = Unit
SoundFirst t (suc n) over = Unit
SoundFirst t (suc n) (unended r) = Unit
SoundFirst t (suc n) (record_and r rs) = SoundRecord t r × SoundFirst t n rs

-- ---- a line from its first field on
pub line_whole : {t : List ℤ} {h : Header} → Tested t h → (bytes : List ℕ) → line_bytes (record_line t bytes)
    ≡ line_left (row_field t bytes) 0 (h.rows - 0)
unfolding record_line
line_whole {t} {h} g bytes =
    let e : h.rows - 0 ≡ rows_of t = omega (arith, tested_rows g) in
    left_line (row_field t bytes) (rows_of t) ∙ ap (line_left (row_field t bytes) 0) (sym e)

-- ---- the records one by one
module _ (k : ℕ) (some : 0 < k) where
  less : k ≡ suc (k - 1)
  less = omega arith

  pub sound_next : {t : List ℤ} {rs us : Records} {r : List ℕ} → rs ≡ record_and r us → SoundFirst t k rs
      → SoundRecord t r × SoundFirst t (k - 1) us
  unfolding SoundFirst
  sound_next e h = rw (e, less) at h

  pub lines_next : (t : List ℤ) {rs us : Records} {r : List ℕ} → rs ≡ record_and r us
      → csv_bytes (records_lines t k rs) ≡ line_bytes (record_line t r) ++ csv_bytes (records_lines t (k - 1) us)
  unfolding records_lines csv_bytes
  lines_next t {us = us} {r = r} e = rw (e) (ap (λ (n : ℕ). csv_bytes (records_lines t n (record_and r us))) less)

  pub lines_unended : (t : List ℤ) {rs : Records} {r : List ℕ} → rs ≡ unended r → csv_bytes (records_lines t k rs) ≡ []
  unfolding records_lines csv_bytes
  lines_unended t {r = r} e = rw (e) (ap (λ (n : ℕ). csv_bytes (records_lines t n (unended r))) less)

  pub lines_over : (t : List ℤ) {rs : Records} → rs ≡ over → csv_bytes (records_lines t k rs) ≡ []
  unfolding records_lines csv_bytes
  lines_over t e = rw (e) (ap (λ (n : ℕ). csv_bytes (records_lines t n over)) less)

pub lines_none : (k : ℕ) (t : List ℤ) (rs : Records) → k ≡ 0 → csv_bytes (records_lines t k rs) ≡ []
unfolding records_lines csv_bytes
lines_none k t rs e = rw e

-- ---- THE RECORDS BEFORE THE FIRST FAULT are sound
-- a record whose judgement found no fault
module _ (t : List ℤ) (r : List ℕ) where
  rows_legal : (b : Option ℕ) (f : Option ℕ) → first_from (bad_row t (rows_of t) r) 0 (rows_of t) ≡ f
      → is_sound (byte_verdict b (row_verdict (row_fault t (rows_of t) r) f)) ≡ true
      → (i : ℕ) → i < rows_of t → is_illegal (reading_at t i r) ≡ false
  unfolding byte_verdict row_verdict is_sound
  rows_legal (Some p) f e g = holds_not g refl
  rows_legal None (Some i) e g = holds_not g refl
  rows_legal None None e g = λ i h. first_nowhere (bad_row t (rows_of t) r) (rows_of t) 0 e i (omega arith) (omega arith)

  legal_rows : is_sound (rows_verdict t (rows_of t) r) ≡ true → (i : ℕ) → i < rows_of t → is_illegal (reading_at t i r) ≡ false
  unfolding rows_verdict
  legal_rows g = rows_legal _ (first_from (bad_row t (rows_of t) r) 0 (rows_of t)) refl g

  sound_here : (first : ℕ) → is_sound (record_verdict t first r) ≡ true → SoundRecord t r
  unfolding record_verdict is_sound
  sound_here first e = go (eqb (length r) first) (leb (length_of t) (length r)) refl e
    where
      go : (p q : Bool) → leb (length_of t) (length r) ≡ q
          → is_sound (cond p (cond q (rows_verdict t (rows_of t) r) (refused 22)) (refused 31)) ≡ true → SoundRecord t r
      go true true b g = record { long = leb-true (length_of t) (length r) b; legal = legal_rows g }
      go true false b g = holds_not g refl
      go false q b g = holds_not g refl

none_left : (t : List ℤ) (m : ℕ) (rs : Records) → m ≡ 0 → SoundFirst t m rs
unfolding SoundFirst
none_left t m rs e = rw e tt

pub verdict_sound : (t : List ℤ) (rs : Records) (n first : ℕ)
    → (n ≤ sound_before (records_verdict t n first rs)) × SoundFirst t (sound_before (records_verdict t n first rs) - n) rs
unfolding records_verdict sound_before go_on is_sound SoundFirst
verdict_sound t over n first = (omega arith, none_left t (n - n) over (omega arith))
verdict_sound t (unended r) n first = (omega arith, none_left t (n + 1 - 1 - n) (unended r) (omega arith))
verdict_sound t (record_and r rs) n first =
    let f = first_length n first (length r) in
    go (record_verdict t f r) (records_verdict t (n + 1) f rs) refl (verdict_sound t rs (n + 1) f)
  where
    stop : (m : ℕ) → m ≡ n + 1 - 1 → (n ≤ m) × SoundFirst t (m - n) (record_and r rs)
    stop m e = (omega arith, none_left t (m - n) (record_and r rs) (omega arith))

    step : (b : ℕ) → SoundRecord t r → (n + 1 ≤ b) × SoundFirst t (b - (n + 1)) rs → (n ≤ b)
        × SoundFirst t (b - n) (record_and r rs)
    step b l h = let e : b - n ≡ suc (b - (n + 1)) = omega (arith, h.0) in (omega (arith, h.0), rw e (l, h.1))

    go : (v : Verdict) (rest : FileVerdict) → record_verdict t (first_length n first (length r)) r ≡ v
        → (n + 1 ≤ sound_before rest) × SoundFirst t (sound_before rest - (n + 1)) rs
        → (n ≤ sound_before (go_on v n rest)) × SoundFirst t (sound_before (go_on v n rest) - n) (record_and r rs)
    go sound rest e h = step (sound_before rest) (sound_here t r (first_length n first (length r)) (ap is_sound e)) h
    go (refused k) rest e h = stop (n + 1 - 1) refl
    go (low_byte p) rest e h = stop (n + 1 - 1) refl
    go (bad_field i x) rest e h = stop (n + 1 - 1) refl

-- where nothing is found, each holds not
none_found : (f : ℕ → Bool) (n i : ℕ) → first_from f i n ≡ None → (j : ℕ) → i ≤ j → j < i + n → f j ≡ false
unfolding first_from
none_found f zero i e j a b = absurd (omega arith)
none_found f (suc n) i e j a b = go (f i) refl e (λ q. none_found f n (suc i) q)
  where
    go : (c : Bool) → f i ≡ c → cond c (Some i) (first_from f (suc i) n) ≡ None
        → (first_from f (suc i) n ≡ None → (j : ℕ) → suc i ≤ j → j < suc i + n → f j ≡ false) → f j ≡ false
    go true q p ih = let z : ◌≡◌ {A = ℕ} 0 1 = cc in absurd (omega arith)
    go false q p ih = ⊎_elim (λ s. ap f (sym s) ∙ q) (λ l. ih p j l (omega arith)) (eq-or-lt_of_le a)
