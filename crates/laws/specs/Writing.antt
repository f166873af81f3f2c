-- What follows from rule/Writing.antt, and what the code keeps.
use Rattle.std.specs.Prelude.{◌≡◌, Bool, List, ℕ, ◌<◌, leb, ltb, ℤ, length, get_or}
use Rattle.std.proofs.Math.Path.{refl}
use Rattle.std.proofs.Common.{sym, ap, ◌∙◌, arith}
use Rattle.std.proofs.Math.Bool.{true, false, cond}
use borrow.Author.Tests.{leb-true, leb-false, ltb-true, ltb-false, le-leb, lt-leb, lt-ltb, le-ltb, eqb-true, eqb-false}
use Rattle.std.proofs.Math.Dec.{eqb}
use Rattle.places.specs.rule.Places.{pick, put, Out, Apart}
use Rattle.layout.specs.rule.Row.{row_at}
use Rattle.fields.specs.rule.Field.{Value, missing, holds}
use Rattle.fields.specs.rule.Number.{all_spaces}
use Rattle.fields.specs.rule.Row.{Fit, fits, other_type, not_legal, too_many, places_of, reading_of, fit_of, bytes_of, written_of}
use Rattle.fields.specs.Facts.{RowFacts}
use Rattle.fieldlaws.specs.Corrections.{written_length, written_keeps, others_read, either_order, last_counts}
use Rattle.fieldlaws.specs.Corrections.{written_bytes, reads_back, read_fits, Plain, writes_back_bytes, blank_reads, blank_kept}
use Rattle.sound.specs.rule.Sound.{well_formed}
use Rattle.sound.specs.rule.Rows.{rows_of, length_of}
use Rattle.sound.specs.Rows.{row_facts}
use Rattle.writes.specs.declared.Wrote.{Wrote}
use Rattle.writes.specs.declared.Wrote.TheVariants.{Done, NotWellFormed, NoRow, TooShort, OtherType, NotLegal, TooMany}
use Rattle.writes.specs.rule.Public.{write_number, fit_number, refusal_of, record_after, Written}
use Rattle.laws.specs.Tops.{row_topped}
use Rattle.laws.specs.rule.Writing.{Sound, WritingOutcome, not_formed, no_row, too_short, other_type_lem, not_legal_lem, too_many_lem}
use Rattle.laws.specs.rule.Writing.{no_fault}

module _ (t : List ℤ) (i : ℕ) (x : Value) (n : ℕ) where
  -- the number names what is so
  pub named : WritingOutcome t i x n (refusal_of t i x n)
  unfolding refusal_of fit_number
  named = formed (well_formed t) refl
    where
      fitted : Sound t i n → (f : Fit) → fit_of t (rows_of t) (row_at t i) x ≡ f → WritingOutcome t i x n (fit_number f)
      fitted s fits e = no_fault s e
      fitted s other_type e = other_type_lem s e
      fitted s not_legal e = not_legal_lem s e
      fitted s too_many e = too_many_lem s e

      longer : well_formed t ≡ true → i < rows_of t → (b : Bool) → ltb n (length_of t) ≡ b
          → WritingOutcome t i x n (cond b 22 (fit_number (fit_of t (rows_of t) (row_at t i) x)))
      longer g h true e = too_short g h (ltb-true n (length_of t) e)
      longer g h false e =
          fitted (record { formed = g; row = h; long = ltb-false n (length_of t) e }) (fit_of t (rows_of t) (row_at t i) x) refl

      rowed : well_formed t ≡ true → (b : Bool) → leb (rows_of t) i ≡ b
          → WritingOutcome t i x n (cond b 21 (cond (ltb n (length_of t)) 22 (fit_number (fit_of t (rows_of t) (row_at t i) x))))
      rowed g true e = no_row g (leb-true (rows_of t) i e)
      rowed g false e = longer g (leb-false (rows_of t) i e) (ltb n (length_of t)) refl

      formed : (b : Bool) → well_formed t ≡ b
          → WritingOutcome t i x n
          (cond b (cond (leb (rows_of t) i) 21 (cond (ltb n (length_of t)) 22 (fit_number (fit_of t (rows_of t) (row_at t i) x)))) 20)
      formed true g = rowed g (leb (rows_of t) i) refl
      formed false g = not_formed g

  -- and what is so has its number
  sound_number : Sound t i n → refusal_of t i x n ≡ fit_number (fit_of t (rows_of t) (row_at t i) x)
  unfolding refusal_of
  sound_number s = rw (s.formed, lt-leb (rows_of t) i s.row, le-ltb n (length_of t) s.long)

  pub only : {k : ℕ} → WritingOutcome t i x n k → refusal_of t i x n ≡ k
  unfolding refusal_of fit_number
  only (not_formed g) = rw g
  only (no_row g h) = rw (g, le-leb (rows_of t) i h)
  only (too_short g h l) = rw (g, lt-leb (rows_of t) i h, lt-ltb n (length_of t) l)
  only (other_type_lem s e) = sound_number s ∙ rw e
  only (not_legal_lem s e) = sound_number s ∙ rw e
  only (too_many_lem s e) = sound_number s ∙ rw e
  only (no_fault s e) = sound_number s ∙ rw e

-- a write without fault: the table and the record are sound, and the value fits the row
pub record Accepted (t : List ℤ) (i : ℕ) (x : Value) (n : ℕ) : Type 0 where
  pub sound : Sound t i n
  pub fitting : fit_of t (rows_of t) (row_at t i) x ≡ fits

pub accepted_of : (t : List ℤ) (i : ℕ) (x : Value) (n : ℕ) → refusal_of t i x n ≡ 0 → Accepted t i x n
accepted_of t i x n e = go (named t i x n) e
  where
    go : {k : ℕ} → WritingOutcome t i x n k → k ≡ 0 → Accepted t i x n
    go (not_formed g) e = absurd (omega arith)
    go (no_row g h) e = absurd (omega arith)
    go (too_short g h l) e = absurd (omega arith)
    go (other_type_lem s q) e = absurd (omega arith)
    go (not_legal_lem s q) e = absurd (omega arith)
    go (too_many_lem s q) e = absurd (omega arith)
    go (no_fault s q) e = record { sound = s; fitting = q }

pub accepted_number : {t : List ℤ} {i : ℕ} {x : Value} {n : ℕ} → Accepted t i x n → refusal_of t i x n ≡ 0
accepted_number {t} {i} {x} {n} a = only t i x n (no_fault a.sound a.fitting)

-- ---- the code's answers have different numbers
pub same_answer : (a b : Wrote) → write_number a ≡ write_number b → a ≡ b
unfolding write_number
same_answer a b e = back a ∙ ap answer e ∙ sym (back b)
  where
    answer : ℕ → Wrote
    answer k =
        cond (eqb k 0) Done
        (cond (eqb k 20) NotWellFormed
        (cond (eqb k 21) NoRow (cond (eqb k 22) TooShort (cond (eqb k 26) OtherType (cond (eqb k 27) NotLegal TooMany)))))

    back : (a : Wrote) → a ≡ answer (write_number a)
    back Done = refl
    back NotWellFormed = refl
    back NoRow = refl
    back TooShort = refl
    back OtherType = refl
    back NotLegal = refl
    back TooMany = refl

-- ---- the promise of one write; its number is 0 where it is done
module _ {t : List ℤ} {i : ℕ} {x : Value} {old new : List ℕ} where
  -- NO TWO OUTCOMES satisfy the promise together
  pub one_outcome : {new' : List ℕ} {a a' : ℕ} → Written t i x old new a → Written t i x old new' a' → (new ≡ new') × (a ≡ a')
  one_outcome w w' = (w.leaves ∙ sym w'.leaves, w.says ∙ sym w'.says)

  pub write_settled : {new' : List ℕ} (a a' : Wrote) → Written t i x old new (write_number a) → Written t i x old new' (write_number a')
      → (new ≡ new') × (a ≡ a')
  write_settled a a' w w' = let e = one_outcome w w' in (e.0, same_answer a a' e.1)

  -- a write is done exactly without fault
  pub done_accepted : Written t i x old new 0 → Accepted t i x (length old)
  done_accepted w = accepted_of t i x (length old) (sym w.says)

  pub accepted_done : {a : ℕ} → Accepted t i x (length old) → Written t i x old new a → a ≡ 0
  accepted_done h w = w.says ∙ accepted_number h

  -- and then the record is exactly the old one with the value's bytes at the row's value places
  pub done_record : Written t i x old new 0 → new ≡ put old (places_of t (rows_of t) (row_at t i)) (bytes_of t (rows_of t) (row_at t i) x)
  unfolding record_after written_of
  done_record w = w.leaves ∙ rw (accepted_number (done_accepted w))

  -- a refusal keeps the record
  pub refused_keeps : {a : ℕ} → (a ≡ 0 → ⊥) → Written t i x old new a → new ≡ old
  unfolding record_after
  refused_keeps refused w = w.leaves ∙ go (eqb (refusal_of t i x (length old)) 0) refl
    where
      go : (b : Bool) → eqb (refusal_of t i x (length old)) 0 ≡ b → cond b (written_of t (rows_of t) (row_at t i) x old) old ≡ old
      go true e = absurd (refused (w.says ∙ eqb-true (refusal_of t i x (length old)) 0 e))
      go false e = refl

  -- the record as `written_of`, and its length
  done_written : Written t i x old new 0 → new ≡ written_of t (rows_of t) (row_at t i) x old
  unfolding written_of
  done_written w = done_record w

  -- done, or refused
  by_number : {A : Type 0} {a : ℕ} → Written t i x old new a → (Written t i x old new 0 → A) → ((a ≡ 0 → ⊥) → A) → A
  by_number {A} {a} w done refused = go (eqb a 0) refl
    where
      go : (b : Bool) → eqb a 0 ≡ b → A
      go true e = done (rw (eqb-true a 0 e) at w)
      go false e = refused (eqb-false a 0 e)

  -- every write keeps the record's length
  pub keeps_length : {a : ℕ} → Written t i x old new a → length new ≡ length old
  keeps_length w =
      by_number w (λ d. ap length (done_written d) ∙ written_length t (rows_of t) (row_at t i) x old)
      (λ n. ap length (refused_keeps n w))

  -- ---- LOCALITY: a write changes no byte outside the row's value places
  pub locality : Written t i x old new 0 → (q : ℕ) → Out q (places_of t (rows_of t) (row_at t i)) → get_or new q 0 ≡ get_or old q 0
  locality w q o = ap (λ (l : List ℕ). get_or l q 0) (done_written w) ∙ written_keeps t (rows_of t) (row_at t i) x old q o

  -- each row that shares none of them reads as before
  pub others_unchanged : Written t i x old new 0 → (j : ℕ)
      → Apart (places_of t (rows_of t) (row_at t j)) (places_of t (rows_of t) (row_at t i))
      → reading_of t (rows_of t) (row_at t j) new ≡ reading_of t (rows_of t) (row_at t j) old
  others_unchanged w j o =
      ap (reading_of t (rows_of t) (row_at t j)) (done_written w) ∙ others_read t (rows_of t) (row_at t i) x old (row_at t j) o

-- ---- WRITING READS NO BYTE OF THE RECORD: of two records of one length the answers are equal, and so are the bytes put
module _ {t : List ℤ} {i : ℕ} {x : Value} {old old' new new' : List ℕ} {a a' : ℕ} where
  pub reads_no_byte : length old ≡ length old' → Written t i x old new a → Written t i x old' new' a' → a ≡ a'
  reads_no_byte e w w' = w.says ∙ ap (refusal_of t i x) e ∙ sym w'.says

facts_of : {t : List ℤ} {i : ℕ} {x : Value} {n : ℕ} → Accepted t i x n → RowFacts t (rows_of t) (length_of t) (row_at t i)
facts_of {t} {i} a = row_facts t a.sound.formed i a.sound.row

-- the bytes at the row's value places are then the value's, whatever stood there
pub bytes_put : {t : List ℤ} {i : ℕ} {x : Value} {old new : List ℕ} → Written t i x old new 0
    → pick new (places_of t (rows_of t) (row_at t i)) ≡ bytes_of t (rows_of t) (row_at t i) x
bytes_put {t} {i} {x} {old} {new} w =
    let a = done_accepted w in
    ap (λ (l : List ℕ). pick l (places_of t (rows_of t) (row_at t i))) (done_written w)
    ∙ written_bytes (row_at t i) (facts_of a) old x a.sound.long a.fitting

-- ---- LAST WRITE: of two writes to one row, whatever the first answers, only the second counts; it is done exactly if it is done alone
module _ {t : List ℤ} {i : ℕ} {x y : Value} {old one two alone : List ℕ} {a b c : ℕ} (first : Written t i x old one a)
    (second : Written t i y one two b) (only-second : Written t i y old alone c) where
  pub last_number : b ≡ c
  last_number = second.says ∙ ap (refusal_of t i y) (keeps_length first) ∙ sym only-second.says

  pub last_write : b ≡ 0 → two ≡ alone
  last_write e =
      let w : Written t i y one two 0 = rw e at second in
      let v : Written t i y old alone 0 = rw (← last_number, e) at only-second in
      let h = done_accepted w in
      by_number first
      (λ d. done_written w ∙ ap (written_of t (rows_of t) (row_at t i) y) (done_written d)
      ∙ last_counts (row_at t i) (facts_of h) old x y h.fitting ∙ sym (done_written v))
      (λ n. done_written w ∙ ap (written_of t (rows_of t) (row_at t i) y) (refused_keeps n first) ∙ sym (done_written v))

-- ---- COMMUTATION: writes to two rows with no shared value place, whatever they answer, give the same answers and equal bytes in either
-- order
module _ {t : List ℤ} {i j : ℕ} {x y : Value} {old one two one' two' : List ℕ} {a b a' b' : ℕ}
    (apart : Apart (places_of t (rows_of t) (row_at t i)) (places_of t (rows_of t) (row_at t j))) (w₁ : Written t i x old one a)
    (w₂ : Written t j y one two b) (w₃ : Written t j y old one' b') (w₄ : Written t i x one' two' a') where
  pub either_first : a ≡ a'
  either_first = w₁.says ∙ sym (ap (refusal_of t i x) (keeps_length w₃)) ∙ sym w₄.says

  pub either_second : b ≡ b'
  either_second = w₂.says ∙ ap (refusal_of t j y) (keeps_length w₁) ∙ sym w₃.says

  both_done : a ≡ 0 → b ≡ 0 → two ≡ two'
  both_done e f =
      let d₁ : Written t i x old one 0 = rw e at w₁ in
      let d₂ : Written t j y one two 0 = rw f at w₂ in
      let d₃ : Written t j y old one' 0 = rw (← either_second, f) at w₃ in
      let d₄ : Written t i x one' two' 0 = rw (← either_first, e) at w₄ in
      done_written d₂ ∙ ap (written_of t (rows_of t) (row_at t j) y) (done_written d₁)
      ∙ either_order t (rows_of t) (row_at t i) (row_at t j) x y old apart
      ∙ sym (ap (written_of t (rows_of t) (row_at t i) x) (done_written d₃)) ∙ sym (done_written d₄)

  first_refused : (a ≡ 0 → ⊥) → two ≡ two'
  first_refused n =
      let k : one ≡ old = refused_keeps n w₁ in
      let v : Written t j y old two b = rw k at w₂ in
      (one_outcome v w₃).0 ∙ sym (refused_keeps (λ e. n (either_first ∙ e)) w₄)

  second_refused : (b ≡ 0 → ⊥) → two ≡ two'
  second_refused n =
      let k : one' ≡ old = refused_keeps (λ e. n (either_second ∙ e)) w₃ in
      let v : Written t i x old two' a' = rw k at w₄ in
      refused_keeps n w₂ ∙ (one_outcome w₁ v).0

  pub either_way : two ≡ two'
  either_way = go (eqb a 0) (eqb b 0) refl refl
    where
      go : (p q : Bool) → eqb a 0 ≡ p → eqb b 0 ≡ q → two ≡ two'
      go true true e f = both_done (eqb-true a 0 e) (eqb-true b 0 f)
      go true false e f = second_refused (eqb-false b 0 f)
      go false q e f = first_refused (eqb-false a 0 e)

-- ---- READ-BACK: an accepted write reads back as its value; missing as missing
pub read_back : {t : List ℤ} {i : ℕ} {x : Value} {old new : List ℕ} → Written t i x old new 0
    → reading_of t (rows_of t) (row_at t i) new ≡ holds x
read_back {t} {i} {x} {old} w =
    let a = done_accepted w in
    ap (reading_of t (rows_of t) (row_at t i)) (done_written w)
    ∙ reads_back (row_at t i) (facts_of a) old (row_topped t a.sound.formed i a.sound.row) x a.sound.long a.fitting

-- ---- WRITE-BACK: writing back what was just read is accepted and keeps what the row reads. The bytes at its value places become the
-- value's own (`bytes_put`), so a second time changes nothing (`last_write`); in a bitstring, a text (with the spaces that it begins
-- with) and a truth they are those that stood there.
pub write_back_accepted : {t : List ℤ} {i : ℕ} {x : Value} {old new : List ℕ} {a : ℕ} → Sound t i (length old)
    → reading_of t (rows_of t) (row_at t i) old ≡ holds x → Written t i x old new a → a ≡ 0
write_back_accepted {t} {i} {x} {old} s e w = accepted_done (record { sound = s; fitting = read_fits t (rows_of t) (row_at t i) x old e }) w

pub write_back : {t : List ℤ} {i : ℕ} {x : Value} {old new : List ℕ} → reading_of t (rows_of t) (row_at t i) old ≡ holds x
    → Written t i x old new 0
    → reading_of t (rows_of t) (row_at t i) new ≡ reading_of t (rows_of t) (row_at t i) old
write_back e w = read_back w ∙ sym e

pub write_back_bytes : {t : List ℤ} {i : ℕ} {x : Value} {old new : List ℕ} → Plain (row_at t i).kind
    → reading_of t (rows_of t) (row_at t i) old ≡ holds x
    → Written t i x old new 0 → new ≡ old
write_back_bytes {t} {i} {x} {old} p e w = done_written w ∙ writes_back_bytes t (rows_of t) (row_at t i) x old p e

-- spaces at all value places read as missing, and missing written back keeps every byte, in every kind
pub blank_back : {t : List ℤ} {i : ℕ} {old new : List ℕ} → all_spaces (pick old (places_of t (rows_of t) (row_at t i))) ≡ true
    → Written t i missing old new 0
    → (reading_of t (rows_of t) (row_at t i) old ≡ holds missing) × (new ≡ old)
blank_back {t} {i} {old} b w =
    (blank_reads t (rows_of t) (row_at t i) old b, done_written w ∙ blank_kept t (rows_of t) (row_at t i) old b)
