-- The records of a sound file: every row is legal in each of them.
-- Assumes nothing.
use Rattle.std.specs.Prelude.{◌≡◌, Bool, cond, List, [], ◌∷◌, ℕ, zero, suc, ◌+◌, ◌≤◌, ◌<◌, eqb, leb, ℤ, length, Option, Some, None}
use Rattle.std.proofs.Math.Path.{refl}
use Rattle.std.proofs.Common.{sym, ap, ◌∙◌, ⊎_elim, eq-or-lt_of_le, arith}
use Rattle.std.proofs.Math.Bool.{true, false}
use Rattle.below.specs.Below.{holds_not}
use Rattle.cuts.specs.rule.Records.{Records, over, unended, record_and, records_of}
use Rattle.layout.specs.rule.Row.{row_at}
use Rattle.fields.specs.rule.Row.{reading_of}
use Rattle.sets.specs.rule.Sets.{is_illegal}
use Rattle.sound.specs.rule.Sound.{well_formed}
use Rattle.sound.specs.rule.Rows.{rows_of, length_of}
use Rattle.records.specs.rule.First.{first_from, bad_row, row_fault}
use Rattle.records.specs.rule.Verdict.{refused, row_verdict, byte_verdict, rows_verdict}
use Rattle.files.specs.rule.File.{sound_with, bad_table, record_verdict, first_length, records_verdict, file_verdict}
use Rattle.files.specs.rule.File.{is_sound}
use Rattle.matrices.specs.rule.Matrix.{ended_of}
use Rattle.matrices.specs.Records.{went_on}
use Rattle.matrices.specs.Entries.{record_at}

-- every row of a table of v rows is legal in every record
unfoldable pub AllLegal : List ℤ → ℕ → List (List ℕ) → Type 0
AllLegal t v [] = Unit {0}
AllLegal t v (r ∷ rs) = ((i : ℕ) → i < v → is_illegal (reading_of t v (row_at t i) r) ≡ false) × AllLegal t v rs

-- ---- laws
pub legal_at : (t : List ℤ) (v : ℕ) (rs : List (List ℕ)) (k : ℕ) → AllLegal t v rs → k < length rs → (i : ℕ) → i < v
    → is_illegal (reading_of t v (row_at t i) (record_at rs k)) ≡ false
unfolding AllLegal
legal_at t v [] k a h i l = absurd (omega arith)
legal_at t v (r ∷ rs) zero a h i l = a.0 i l
legal_at t v (r ∷ rs) (suc k) a h i l = legal_at t v rs k a.1 (omega arith) i l

none_found : (f : ℕ → Bool) (n i : ℕ) → first_from f i n ≡ None → (j : ℕ) → i ≤ j → j < i + n → f j ≡ false
unfolding first_from
none_found f zero i e j a b = absurd (omega arith)
none_found f (suc n) i e j a b = go (f i) refl e (λ q. none_found f n (suc i) q)
  where
    go : (c : Bool) → f i ≡ c → cond c (Some i) (first_from f (suc i) n) ≡ None
        → (first_from f (suc i) n ≡ None → (j : ℕ) → suc i ≤ j → j < suc i + n → f j ≡ false) → f j ≡ false
    go true q p ih = let z : ◌≡◌ {A = ℕ} 0 1 = cc in absurd (omega arith)
    go false q p ih = ⊎_elim (λ s. ap f (sym s) ∙ q) (λ l. ih p j l (omega arith)) (eq-or-lt_of_le a)

-- a record that was judged sound
module _ (t : List ℤ) (r : List ℕ) where
  rows_legal : (b : Option ℕ) (f : Option ℕ) → first_from (bad_row t (rows_of t) r) 0 (rows_of t) ≡ f
      → is_sound (byte_verdict b (row_verdict (row_fault t (rows_of t) r) f)) ≡ true
      → (i : ℕ) → i < rows_of t → is_illegal (reading_of t (rows_of t) (row_at t i) r) ≡ false
  unfolding byte_verdict row_verdict is_sound
  rows_legal (Some p) f e g = holds_not g refl
  rows_legal None (Some i) e g = holds_not g refl
  rows_legal None None e g = λ i h. none_found (bad_row t (rows_of t) r) (rows_of t) 0 e i (omega arith) (omega arith)

  record_legal : (first : ℕ) → is_sound (record_verdict t first r) ≡ true
      → (i : ℕ) → i < rows_of t → is_illegal (reading_of t (rows_of t) (row_at t i) r) ≡ false
  unfolding record_verdict rows_verdict is_sound
  record_legal first e = go (eqb (length r) first) (leb (length_of t) (length r)) e
    where
      go : (p q : Bool) → is_sound (cond p (cond q (rows_verdict t (rows_of t) r) (refused 22)) (refused 31)) ≡ true
          → (i : ℕ) → i < rows_of t → is_illegal (reading_of t (rows_of t) (row_at t i) r) ≡ false
      go true true g = rows_legal _ (first_from (bad_row t (rows_of t) r) 0 (rows_of t)) refl g
      go true false g = holds_not g refl
      go false q g = holds_not g refl

records_legal : (t : List ℤ) (rs : Records) (n first m : ℕ) → records_verdict t n first rs ≡ sound_with m
    → AllLegal t (rows_of t) (ended_of rs)
unfolding records_verdict AllLegal ended_of
records_legal t over n first m e = tt
records_legal t (unended r) n first m e = tt
records_legal t (record_and r rs) n first m e =
    let f = first_length n first (length r) in
    let w = went_on (record_verdict t f r) n m (records_verdict t (n + 1) f rs) e in
    (record_legal t r f w.0, records_legal t rs (n + 1) f m w.1)

pub file_legal : (t : List ℤ) (d : List ℕ) (m : ℕ) → file_verdict t d ≡ sound_with m → AllLegal t (rows_of t) (ended_of (records_of d))
unfolding file_verdict
file_legal t d m = go (well_formed t)
  where
    go : (b : Bool) → cond b (records_verdict t 0 0 (records_of d)) bad_table ≡ sound_with m
        → AllLegal t (rows_of t) (ended_of (records_of d))
    go true e = records_legal t (records_of d) 0 0 m e
    go false e = let z : ◌≡◌ {A = ℕ} 0 1 = cc in absurd (omega arith)
