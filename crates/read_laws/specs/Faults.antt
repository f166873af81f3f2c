-- "A record is refused in the same cases as before": a field's fault is answered exactly where the reading is illegal, and it is one of
-- 241, 242, 243. What each of them says of the bytes stands in fault_laws.
use Rattle.std.proofs.Math.Path.{◌≡◌, sym, ap}
use Rattle.std.specs.Prelude.{refl, Bool, true, List, ℕ, zero, suc, ◌+◌, ◌≤◌, ◌<◌, ℤ}
use Rattle.std.proofs.Common.{◌∙◌, arith}
use Rattle.below.specs.Below.{holds_not}
use Rattle.sets.specs.rule.Sets.{is_illegal}
use Rattle.sound.specs.rule.Sound.{well_formed}
use Rattle.sound.specs.rule.Rows.{rows_of}
use Rattle.faults.specs.rule.Fault.{fault_number}
use Rattle.faults.specs.Joined.{some_fault}
use Rattle.faults.specs.declared.Fault.{Fault}
use Rattle.faults.specs.declared.Fault.TheVariants.{Sound, Stray, NotLegal, Point}
use Rattle.fault_laws.specs.Refused.{refused_as_before}
use Rattle.records.specs.rule.First.{first_from, bad_row, row_fault}
use Rattle.records.specs.rule.Value as value
use Rattle.records.specs.rule.Value.{Outcome, reading_at, ValueRead}
use Rattle.records.specs.rule.Verdict.{Verdict, bad_field, RecordJudged}
use Rattle.read_laws.specs.rule.Refused.{RecordOutcome, not_formed, too_short, low_byte_lem, bad_field_lem, no_fault}
use Rattle.read_laws.specs.Refused.{record_named}
use Rattle.read_laws.specs.rule.Faults.{Told, stray, not_legal_lem, point}
use Rattle.read_laws.specs.rule.Reading as reading
use Rattle.read_laws.specs.rule.Reading.{Readable, ReadOutcome, is_illegal_lem, is_missing, is_number, is_set, short_list, is_text_lem}
use Rattle.read_laws.specs.rule.Reading.{is_truth}
use Rattle.read_laws.specs.Reading.{read_named, row_only}

-- what a fault that is one is told as
pub told : (x : Fault) → some_fault x ≡ true → Told x (fault_number x)
unfolding some_fault fault_number
told Sound e = holds_not e refl
told (Stray p) e = stray
told (NotLegal z) e = not_legal_lem
told (Point p) e = point

-- ---- THE LOWEST ROW: that with a fault is that which is illegal
first_same : (f g : ℕ → Bool) (i n : ℕ) → ((j : ℕ) → i ≤ j → j < i + n → f j ≡ g j) → first_from f i n ≡ first_from g i n
unfolding first_from
first_same f g i zero h = refl
first_same f g i (suc n) h = rw (h i (omega arith) (omega arith), first_same f g (suc i) n (λ j a b. h j (omega arith) (omega arith)))

abbrev pub faulty_row : List ℤ → ℕ → List ℕ → ℕ → Bool
faulty_row t v bytes i = some_fault (row_fault t v bytes i)

pub same_row : (t : List ℤ) → well_formed t ≡ true → (bytes : List ℕ)
    → first_from (bad_row t (rows_of t) bytes) 0 (rows_of t) ≡ first_from (faulty_row t (rows_of t) bytes) 0 (rows_of t)
same_row t good bytes =
    first_same (bad_row t (rows_of t) bytes) (faulty_row t (rows_of t) bytes) 0 (rows_of t)
    (λ j a b. refused_as_before t good j (omega arith) bytes)

-- ---- A RECORD JUDGED: with a row comes its fault, and there is one
module _ {t : List ℤ} {bytes : List ℕ} {i : ℕ} {x : Fault} where
  by_outcome : {v : Verdict} → RecordOutcome t bytes v → v ≡ bad_field i x → (i < rows_of t) × (some_fault x ≡ true)
  by_outcome (not_formed g) e = let z : ◌≡◌ {A = ℕ} 0 1 = cc in absurd (omega arith)
  by_outcome (too_short g l) e = let z : ◌≡◌ {A = ℕ} 0 1 = cc in absurd (omega arith)
  by_outcome (low_byte_lem g l f) e = let z : ◌≡◌ {A = ℕ} 0 1 = cc in absurd (omega arith)
  by_outcome (no_fault g p) e = let z : ◌≡◌ {A = ℕ} 0 1 = cc in absurd (omega arith)
  by_outcome (bad_field_lem {i = k} g l n f) e =
      let q : k ≡ i = cc in
      let y : row_fault t (rows_of t) bytes k ≡ x = cc in
      let h : k < rows_of t = omega (arith, f.below) in
      (rw q at h, ap some_fault (sym y) ∙ sym (refused_as_before t g k h bytes) ∙ f.passes)

  pub judged_fault : RecordJudged t bytes (bad_field i x) → (i < rows_of t) × Told x (fault_number x)
  judged_fault w = let h = by_outcome (record_named t bytes w) refl in (h.0, told x h.1)

-- ---- A ROW READ: likewise
module _ {t : List ℤ} {i : ℕ} {bytes : List ℕ} {list : List ℤ} {x : Fault} where
  by_reading : {l : List ℤ} {o : Outcome} → ReadOutcome t i bytes list l o → o ≡ value.bad_field x → some_fault x ≡ true
  unfolding is_illegal
  by_reading (is_illegal_lem s h) e =
      let y : row_fault t (rows_of t) bytes i ≡ x = cc in
      ap some_fault (sym y) ∙ sym (refused_as_before t s.formed i s.row bytes) ∙ ap is_illegal (row_only t i bytes s h)
  by_reading (reading.not_formed g) e = let z : ◌≡◌ {A = ℕ} 0 1 = cc in absurd (omega arith)
  by_reading (reading.no_row g h) e = let z : ◌≡◌ {A = ℕ} 0 1 = cc in absurd (omega arith)
  by_reading (reading.too_short g h l) e = let z : ◌≡◌ {A = ℕ} 0 1 = cc in absurd (omega arith)
  by_reading (is_missing s h) e = let z : ◌≡◌ {A = ℕ} 0 1 = cc in absurd (omega arith)
  by_reading (is_number s h) e = let z : ◌≡◌ {A = ℕ} 0 1 = cc in absurd (omega arith)
  by_reading (is_set s h n) e = let z : ◌≡◌ {A = ℕ} 0 1 = cc in absurd (omega arith)
  by_reading (short_list s h n) e = let z : ◌≡◌ {A = ℕ} 0 1 = cc in absurd (omega arith)
  by_reading (is_text_lem s h) e = let z : ◌≡◌ {A = ℕ} 0 1 = cc in absurd (omega arith)
  by_reading (is_truth s h) e = let z : ◌≡◌ {A = ℕ} 0 1 = cc in absurd (omega arith)

  pub read_fault : {list' : List ℤ} → ValueRead t i bytes list list' (value.bad_field x) → Told x (fault_number x)
  read_fault w = told x (by_reading (read_named t i bytes list w) refl)
