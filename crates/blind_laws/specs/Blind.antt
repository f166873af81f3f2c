-- BLIND: by two well-formed tables that are alike, every record, file and write goes the same way.
use Rattle.std.specs.Prelude.{◌≡◌, Bool, List, ℕ, zero, suc, ◌+◌, ◌-◌, ◌≤◌, ◌<◌, ℤ, length, Some}
use Rattle.std.proofs.Math.Path.{refl, ap}
use Rattle.std.proofs.Common.{◌∙◌, arith}
use Rattle.std.proofs.Math.Bool.{true, false, cond}
use borrow.Author.Tests.{ltb-true, leb-false}
use Rattle.std.proofs.Math.Dec.{eqb, leb, ltb}
use Rattle.layout.specs.rule.Row.{row_at}
use Rattle.layout.specs.declared.Row.{Row}
use Rattle.fields.specs.rule.Field.{Value}
use Rattle.fields.specs.rule.Row.{reading_of, fit_of, written_of}
use Rattle.sets.specs.rule.Sets.{is_illegal, list_after}
use Rattle.faults.specs.rule.Fault.{fault_of}
use Rattle.faults.specs.declared.Fault.{Fault}
use Rattle.sound.specs.rule.Sound.{well_formed}
use Rattle.sound.specs.rule.Rows.{rows_of, length_of}
use Rattle.lows.specs.rule.Lows.{low_at}
use Rattle.records.specs.rule.First.{first_from, bad_row, row_fault}
use Rattle.records.specs.rule.Value.{Outcome, refused, outcome_of, read_as, list_as}
use Rattle.records.specs.rule.Verdict.{Verdict, row_verdict, byte_verdict, rows_verdict, verdict_of}
use Rattle.records.specs.rule.Verdict as verdict
use Rattle.writes.specs.rule.Public.{fit_number, refusal_of, record_after}
use Rattle.cuts.specs.rule.Records.{Records, over, unended, record_and, records_of}
use Rattle.files.specs.rule.File.{first_length, record_verdict, records_verdict, file_verdict}
use Rattle.blind_laws.specs.rule.Blind.{Alike, SameRules}
use Rattle.blind_laws.specs.Rows.{rows_same, length_same, row_same, allowed_same}
use Rattle.blind_laws.specs.Fields.{reading_same, fault_same, fit_same, written_same}

-- what is answered of a row that is there, in a record that is long enough
abbrev read_by : List ℤ → ℕ → ℕ → List ℕ → ℕ → Outcome
read_by w v i bytes n = outcome_of ((row_at w i).start - 1) n (fault_of w v (row_at w i) bytes) (reading_of w v (row_at w i) bytes)

-- the lowest illegal row and its fault, by what is the same of each row below v
first_same :
    (f g : ℕ → Bool) (a b : ℕ → Fault) (v i n : ℕ)
    → i + n ≤ v
    → ((k : ℕ) → k < v → f k ≡ g k)
    → ((k : ℕ) → k < v → a k ≡ b k)
    → row_verdict a (first_from f i n) ≡ row_verdict b (first_from g i n)
unfolding first_from row_verdict
first_same f g a b v i zero h p q = refl
first_same f g a b v i (suc n) h p q = rw (p i (omega arith))
    (go (g i) (q i (omega arith)) (first_same f g a b v (suc i) n (omega arith) p q))
  where
    go : (c : Bool) → a i ≡ b i → row_verdict a (first_from f (suc i) n) ≡ row_verdict b (first_from g (suc i) n)
        → row_verdict a (cond c (Some i) (first_from f (suc i) n)) ≡ row_verdict b (cond c (Some i) (first_from g (suc i) n))
    go true e r = ap (verdict.bad_field i) e
    go false e r = r

module _ (t u : List ℤ) (g : well_formed t ≡ true) (h : well_formed u ≡ true) (s : Alike t u) where
  -- ---- row i, in tables of one number of rows
  module _ (i : ℕ) (l : i < rows_of t) where
    reading_here : (bytes : List ℕ) → reading_of t (rows_of t) (row_at t i) bytes ≡ reading_of u (rows_of t) (row_at u i) bytes
    reading_here bytes =
        reading_same t u (rows_of t) (row_at t i) (allowed_same t u g s i l) bytes
        ∙ ap (λ (r : Row). reading_of u (rows_of t) r bytes) (row_same t u g s i l)

    fault_here : (bytes : List ℕ) → fault_of t (rows_of t) (row_at t i) bytes ≡ fault_of u (rows_of t) (row_at u i) bytes
    fault_here bytes =
        fault_same t u (rows_of t) (row_at t i) (allowed_same t u g s i l) bytes
        ∙ ap (λ (r : Row). fault_of u (rows_of t) r bytes) (row_same t u g s i l)

    fit_here : (x : Value) → fit_of t (rows_of t) (row_at t i) x ≡ fit_of u (rows_of t) (row_at u i) x
    fit_here x =
        fit_same t u (rows_of t) (row_at t i) (allowed_same t u g s i l) x
        ∙ ap (λ (r : Row). fit_of u (rows_of t) r x) (row_same t u g s i l)

    written_here : (x : Value) (old : List ℕ)
        → written_of t (rows_of t) (row_at t i) x old ≡ written_of u (rows_of t) (row_at u i) x old
    written_here x old =
        written_same t u (rows_of t) (row_at t i) (allowed_same t u g s i l) x old
        ∙ ap (λ (r : Row). written_of u (rows_of t) r x old) (row_same t u g s i l)

    start_here : (row_at t i).start ≡ (row_at u i).start
    start_here = ap (λ (r : Row). r.start) (row_same t u g s i l)

  -- ---- the calls on one row
  read_alike : (i : ℕ) (bytes : List ℕ) (n : ℕ) → read_as t i bytes n ≡ read_as u i bytes n
  unfolding read_as
  read_alike i bytes n = rw (g, h, ← rows_same t u g s, ← length_same t u g s) (go (ltb i (rows_of t)) refl)
    where
      go : (b : Bool) → ltb i (rows_of t) ≡ b
          → cond b (cond (leb (length_of t) (length bytes)) (read_by t (rows_of t) i bytes n) (refused 22)) (refused 21)
          ≡ cond b (cond (leb (length_of t) (length bytes)) (read_by u (rows_of t) i bytes n) (refused 22)) (refused 21)
      go false e = refl
      go true e =
          let l = ltb-true i (rows_of t) e in
          rw (fault_here i l bytes, reading_here i l bytes, start_here i l)

  list_alike : (i : ℕ) (bytes : List ℕ) (list : List ℤ) → list_as t i bytes list ≡ list_as u i bytes list
  unfolding list_as
  list_alike i bytes list = rw (g, h, ← rows_same t u g s, ← length_same t u g s) (go (ltb i (rows_of t)) refl)
    where
      go : (b : Bool) → ltb i (rows_of t) ≡ b → cond b
          (cond (leb (length_of t) (length bytes)) (list_after (reading_of t (rows_of t) (row_at t i) bytes) list) list) list
          ≡ cond b (cond (leb (length_of t) (length bytes)) (list_after (reading_of u (rows_of t) (row_at u i) bytes) list) list) list
      go false e = refl
      go true e = rw (reading_here i (ltb-true i (rows_of t) e) bytes)

  refusal_alike : (i : ℕ) (x : Value) (n : ℕ) → refusal_of t i x n ≡ refusal_of u i x n
  unfolding refusal_of
  refusal_alike i x n = rw (g, h, ← rows_same t u g s, ← length_same t u g s) (go (leb (rows_of t) i) refl)
    where
      go : (b : Bool) → leb (rows_of t) i ≡ b → cond b 21 (cond (ltb n (length_of t)) 22 (fit_number (fit_of t (rows_of t) (row_at t i) x)))
          ≡ cond b 21 (cond (ltb n (length_of t)) 22 (fit_number (fit_of u (rows_of t) (row_at u i) x)))
      go true e = refl
      go false e = rw (fit_here i (leb-false (rows_of t) i e) x)

  missing_row : (i : ℕ) (x : Value) (n : ℕ) → leb (rows_of t) i ≡ true → refusal_of t i x n ≡ 21
  unfolding refusal_of
  missing_row i x n e = rw (g, e)

  write_alike : (i : ℕ) (x : Value) (old : List ℕ) → record_after t i x old ≡ record_after u i x old
  unfolding record_after
  write_alike i x old = rw (← refusal_alike i x (length old), ← rows_same t u g s) (go (leb (rows_of t) i) refl)
    where
      none : leb (rows_of t) i ≡ true → eqb (refusal_of t i x (length old)) 0 ≡ false
      none e = rw (missing_row i x (length old) e)

      go : (b : Bool) → leb (rows_of t) i ≡ b
          → cond (eqb (refusal_of t i x (length old)) 0) (written_of t (rows_of t) (row_at t i) x old) old
          ≡ cond (eqb (refusal_of t i x (length old)) 0) (written_of u (rows_of t) (row_at u i) x old) old
      go true e = rw (none e)
      go false e = rw (written_here i (leb-false (rows_of t) i e) x old)

  -- ---- a record, and a file
  rows_alike : (bytes : List ℕ) → rows_verdict t (rows_of t) bytes ≡ rows_verdict u (rows_of u) bytes
  unfolding rows_verdict
  rows_alike bytes =
      rw (← rows_same t u g s)
      (ap (byte_verdict (first_from (low_at bytes) 0 (length bytes)))
      (first_same (bad_row t (rows_of t) bytes) (bad_row u (rows_of t) bytes) (row_fault t (rows_of t) bytes)
      (row_fault u (rows_of t) bytes)
      (rows_of t) 0 (rows_of t) (omega arith)
      (λ k l. ap is_illegal (reading_here k l bytes)) (λ k l. fault_here k l bytes)))

  judge_alike : (bytes : List ℕ) → verdict_of t bytes ≡ verdict_of u bytes
  unfolding verdict_of
  judge_alike bytes = rw (g, h, length_same t u g s, rows_alike bytes)

  record_alike : (first : ℕ) (bytes : List ℕ) → record_verdict t first bytes ≡ record_verdict u first bytes
  unfolding record_verdict
  record_alike first bytes = rw (length_same t u g s, rows_alike bytes)

  records_alike : (n first : ℕ) (rs : Records) → records_verdict t n first rs ≡ records_verdict u n first rs
  unfolding records_verdict
  records_alike n first over = refl
  records_alike n first (unended r) = refl
  records_alike n first (record_and r rs) =
      rw (record_alike (first_length n first (length r)) r, records_alike (n + 1) (first_length n first (length r)) rs)

  file_alike : (d : List ℕ) → file_verdict t d ≡ file_verdict u d
  unfolding file_verdict
  file_alike d = rw (g, h, records_alike 0 0 (records_of d))

-- THE RECORD RULES HOLD ONCE FOR BOTH KINDS OF TABLE
pub blind : (t u : List ℤ) → well_formed t ≡ true → well_formed u ≡ true → Alike t u → SameRules t u
blind t u g h s = record {
  read = read_alike t u g h s;
  listed = list_alike t u g h s;
  judged = judge_alike t u g h s;
  refused = refusal_alike t u g h s;
  written = write_alike t u g h s;
  file = file_alike t u g h s;
}
