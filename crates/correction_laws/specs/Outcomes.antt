-- What follows from rule/Outcomes.antt: each number is given exactly when it is so, both ways.
use Rattle.std.proofs.Math.Path.{◌≡◌, refl}
use Rattle.std.proofs.Common.{sym, ap, ◌∙◌, arith}
use Rattle.std.specs.Prelude.{Bool, cond, List, ℕ, ◌≤◌, ◌<◌, eqb, ltb, ℤ, pos, length}
use Rattle.std.proofs.Math.Bool.{true, false}
use borrow.Author.Tests.{leb-true, leb-false, ltb-true, ltb-false, le-leb, lt-leb, lt-ltb, le-ltb}
use Rattle.std.proofs.Math.Dec.{leb}
use Rattle.cells.specs.rule.Cell.{eq_z}
use Rattle.layout.specs.rule.Row.{row_at}
use Rattle.layout.specs.declared.Kind.{Kind}
use Rattle.layout.specs.declared.Kind.TheVariants.{Single, Multiple, Quantity, Character, Logical}
use Rattle.layout.specs.declared.Row.{Row}
use Rattle.fields.specs.rule.Legal.{legal}
use Rattle.fields.specs.rule.Field.{Value, missing, number, members, text, truth}
use Rattle.fields.specs.rule.Row.{Fit, fits, other_type, not_legal, too_many, legal_fit, fits_by, fit_of}
use Rattle.sound.specs.rule.Sound.{well_formed}
use Rattle.sound.specs.rule.Rows.{rows_of, length_of}
use Rattle.writes.specs.rule.Public.{fit_number, refusal_of}
use Rattle.corrections.specs.declared.Given.{Given}
use Rattle.corrections.specs.declared.Correction.{Correction}
use Rattle.corrections.specs.rule.Truth.{no_truth, bad_truth}
use Rattle.corrections.specs.rule.Correction.{Asked, asks, other_truth, other_kind, truth_asked, asked_of, mark_by}
use Rattle.corrections.specs.rule.Correction.{mark_of, whole_refusal, ListCorrected}
use Rattle.corrections.specs.Truth.{kind_number, kind_number_lem}
use Rattle.corrections.specs.Correction.{Admitted, admitted}
use Rattle.correction_laws.specs.rule.Outcomes.{ListOutcome, not_formed, too_short, taken}
use Rattle.correction_laws.specs.rule.Outcomes.{MarkOutcome, no_row, other_type_lem, not_legal_lem, done, truth_elsewhere, no_legal_truth}
use Rattle.correction_laws.specs.rule.Outcomes.{other_kind_lem}

-- ---- the whole call
whole_named : (t : List ℤ) (n : ℕ) → ListOutcome t n (whole_refusal t n)
unfolding whole_refusal
whole_named t n = formed (well_formed t) refl
  where
    longer : well_formed t ≡ true → (b : Bool) → ltb n (length_of t) ≡ b → ListOutcome t n (cond b 22 0)
    longer g true e = too_short g (ltb-true n (length_of t) e)
    longer g false e = taken g (ltb-false n (length_of t) e)

    formed : (b : Bool) → well_formed t ≡ b → ListOutcome t n (cond b (cond (ltb n (length_of t)) 22 0) 20)
    formed true g = longer g (ltb n (length_of t)) refl
    formed false g = not_formed g

whole_only : {t : List ℤ} {n k : ℕ} → ListOutcome t n k → whole_refusal t n ≡ k
unfolding whole_refusal
whole_only (not_formed g) = rw g
whole_only {t} {n} (too_short g l) = rw (g, lt-ltb n (length_of t) l)
whole_only {t} {n} (taken g l) = rw (g, le-ltb n (length_of t) l)

module _ {t : List ℤ} {list list' : List Correction} {old new : List ℕ} {r : ℕ} (p : ListCorrected t list list' old new r) where
  -- the number says what is so, and what is so has its number
  pub list_named : ListOutcome t (length old) r
  list_named = rw p.says (whole_named t (length old))

  pub list_only : {k : ℕ} → ListOutcome t (length old) k → r ≡ k
  list_only o = p.says ∙ whole_only o

-- ---- a mark. No correction asks for a set or a text, so that 28 is no mark
abbrev plain : Value → Bool
plain missing = true
plain (number z) = true
plain (members ms) = false
plain (text s) = false
plain (truth b) = true

abbrev plainly : Asked → Bool
plainly (asks x) = plain x
plainly other_truth = true
plainly other_kind = true

truth_plain : (z : ℤ) → plainly (truth_asked z) ≡ true
unfolding truth_asked
truth_plain z = zero (eq_z z (pos 0)) (eq_z z (pos 1))
  where
    zero : (a b : Bool) → plainly (cond a (asks (truth false)) (cond b (asks (truth true)) other_truth)) ≡ true
    zero true b = refl
    zero false true = refl
    zero false false = refl

asked_plain : (g : Given) → plainly (asked_of g) ≡ true
unfolding asked_of
asked_plain g = go (eqb g.kind 0) (eqb g.kind 1) (eqb g.kind 4)
  where
    go : (a b c : Bool)
        → plainly (cond a (asks missing) (cond b (asks (number g.number)) (cond c (truth_asked g.number) other_kind))) ≡ true
    go true b c = refl
    go false true c = refl
    go false false true = truth_plain g.number
    go false false false = refl

not_many : (k : Kind) (t : List ℤ) (v : ℕ) (r : Row) (x : Value) → plain x ≡ true → fits_by k t v r x ≡ too_many → ⊥
unfolding fits_by legal_fit
not_many k t v r missing p e = let z : ◌≡◌ {A = ℕ} 0 1 = cc in absurd (omega arith)
not_many Single t v r (number n) p e = judged (legal t v r n) e
  where
    judged : (b : Bool) → legal_fit b ≡ too_many → ⊥
    judged true f = let z : ◌≡◌ {A = ℕ} 0 1 = cc in absurd (omega arith)
    judged false f = let z : ◌≡◌ {A = ℕ} 0 1 = cc in absurd (omega arith)
not_many (Quantity q) t v r (number n) p e = judged (legal t v r n) e
  where
    judged : (b : Bool) → legal_fit b ≡ too_many → ⊥
    judged true f = let z : ◌≡◌ {A = ℕ} 0 1 = cc in absurd (omega arith)
    judged false f = let z : ◌≡◌ {A = ℕ} 0 1 = cc in absurd (omega arith)
not_many (Multiple s) t v r (number n) p e = let z : ◌≡◌ {A = ℕ} 0 1 = cc in absurd (omega arith)
not_many Character t v r (number n) p e = let z : ◌≡◌ {A = ℕ} 0 1 = cc in absurd (omega arith)
not_many Logical t v r (number n) p e = let z : ◌≡◌ {A = ℕ} 0 1 = cc in absurd (omega arith)
not_many k t v r (members ms) p e = let z : ◌≡◌ {A = ℕ} 0 1 = cc in absurd (omega arith)
not_many k t v r (text s) p e = let z : ◌≡◌ {A = ℕ} 0 1 = cc in absurd (omega arith)
not_many Single t v r (truth b) p e = let z : ◌≡◌ {A = ℕ} 0 1 = cc in absurd (omega arith)
not_many (Multiple s) t v r (truth b) p e = let z : ◌≡◌ {A = ℕ} 0 1 = cc in absurd (omega arith)
not_many (Quantity q) t v r (truth b) p e = let z : ◌≡◌ {A = ℕ} 0 1 = cc in absurd (omega arith)
not_many Character t v r (truth b) p e = let z : ◌≡◌ {A = ℕ} 0 1 = cc in absurd (omega arith)
not_many Logical t v r (truth b) p e = let z : ◌≡◌ {A = ℕ} 0 1 = cc in absurd (omega arith)

module _ {t : List ℤ} {n : ℕ} (a : Admitted t n) (i : ℕ) where
  -- the number of a write where there is no such row, and where there is
  refused_row : (x : Value) → rows_of t ≤ i → refusal_of t i x n ≡ 21
  unfolding refusal_of
  refused_row x h = rw (a.formed, le-leb (rows_of t) i h)

  by_fit : (x : Value) → i < rows_of t → refusal_of t i x n ≡ fit_number (fit_of t (rows_of t) (row_at t i) x)
  unfolding refusal_of
  by_fit x h = rw (a.formed, lt-leb (rows_of t) i h, le-ltb n (length_of t) a.long)

  bad_row : rows_of t ≤ i → bad_truth t i n ≡ 21
  unfolding no_truth
  bad_row h = rw (refused_row (truth false) h)

  bad_kind : i < rows_of t → bad_truth t i n ≡ kind_number (row_at t i).kind
  bad_kind h = ap no_truth (by_fit (truth false) h) ∙ kind_number_lem (row_at t i).kind t (rows_of t) (row_at t i)

  fitted : i < rows_of t → (x : Value) → plain x ≡ true → (f : Fit) → fit_of t (rows_of t) (row_at t i) x ≡ f
      → MarkOutcome t i (asks x) (fit_number f)
  unfolding fit_number
  fitted h x p fits e = done h e
  fitted h x p other_type e = other_type_lem h e
  fitted h x p not_legal e = not_legal_lem h e
  fitted h x p too_many e = absurd (not_many (row_at t i).kind t (rows_of t) (row_at t i) x p e)

  kinded : i < rows_of t → (k : Kind) → (row_at t i).kind ≡ k → MarkOutcome t i other_truth (kind_number k)
  unfolding kind_number
  kinded h Single e = truth_elsewhere h (λ f. let z : ◌≡◌ {A = ℕ} 0 1 = cc in absurd (omega arith))
  kinded h (Multiple s) e = truth_elsewhere h (λ f. let z : ◌≡◌ {A = ℕ} 0 1 = cc in absurd (omega arith))
  kinded h (Quantity q) e = truth_elsewhere h (λ f. let z : ◌≡◌ {A = ℕ} 0 1 = cc in absurd (omega arith))
  kinded h Character e = truth_elsewhere h (λ f. let z : ◌≡◌ {A = ℕ} 0 1 = cc in absurd (omega arith))
  kinded h Logical e = no_legal_truth h e

  -- where the row is not there, and where it is
  rowed : (q : Asked) → plainly q ≡ true → MarkOutcome t i q (mark_by t i n q)
  unfolding mark_by
  rowed (asks x) p = go (leb (rows_of t) i) refl
    where
      go : (b : Bool) → leb (rows_of t) i ≡ b → MarkOutcome t i (asks x) (refusal_of t i x n)
      go true e = let h = leb-true (rows_of t) i e in rw (refused_row x h) (no_row h)
      go false e = let h = leb-false (rows_of t) i e in rw (by_fit x h) (fitted h x p (fit_of t (rows_of t) (row_at t i) x) refl)
  rowed other_truth p = go (leb (rows_of t) i) refl
    where
      go : (b : Bool) → leb (rows_of t) i ≡ b → MarkOutcome t i other_truth (bad_truth t i n)
      go true e = let h = leb-true (rows_of t) i e in rw (bad_row h) (no_row h)
      go false e = let h = leb-false (rows_of t) i e in rw (bad_kind h) (kinded h (row_at t i).kind refl)
  rowed other_kind p = go (leb (rows_of t) i) refl
    where
      go : (b : Bool) → leb (rows_of t) i ≡ b → MarkOutcome t i other_kind (cond b 21 26)
      go true e = no_row (leb-true (rows_of t) i e)
      go false e = other_kind_lem (leb-false (rows_of t) i e)

  -- the mark of a correction says what is so
  mark_named : (g : Given) → MarkOutcome t i (asked_of g) (mark_by t i n (asked_of g))
  mark_named g = rowed (asked_of g) (asked_plain g)

  no_truth_kind : (k : Kind) → (k ≡ Logical → ⊥) → kind_number k ≡ 26
  unfolding kind_number
  no_truth_kind Single f = refl
  no_truth_kind (Multiple s) f = refl
  no_truth_kind (Quantity q) f = refl
  no_truth_kind Character f = refl
  no_truth_kind Logical f = absurd (f refl)

  -- and what is so has its number
  row_missing : (q : Asked) → rows_of t ≤ i → mark_by t i n q ≡ 21
  unfolding mark_by
  row_missing (asks x) h = refused_row x h
  row_missing other_truth h = bad_row h
  row_missing other_kind h = rw (le-leb (rows_of t) i h)

  mark_only : {q : Asked} {k : ℕ} → MarkOutcome t i q k → mark_by t i n q ≡ k
  unfolding mark_by fit_number kind_number
  mark_only {q} (no_row h) = row_missing q h
  mark_only (other_type_lem {x} h e) = by_fit x h ∙ rw e
  mark_only (not_legal_lem {x} h e) = by_fit x h ∙ rw e
  mark_only (done {x} h e) = by_fit x h ∙ rw e
  mark_only (truth_elsewhere h f) = bad_kind h ∙ no_truth_kind (row_at t i).kind f
  mark_only (no_legal_truth h e) = bad_kind h ∙ rw e
  mark_only (other_kind_lem h) = rw (lt-leb (rows_of t) i h)

-- THE MARKS of a call that is not turned away: each says what is so, and what is so has its number
module _ {t : List ℤ} {list list' : List Correction} {old new : List ℕ} (p : ListCorrected t list list' old new 0) (c : Correction) where
  pub mark_says : MarkOutcome t c.row (asked_of c.value) (mark_of t c (length old))
  mark_says = mark_named (admitted (sym p.says)) c.row c.value

  pub says_mark : {k : ℕ} → MarkOutcome t c.row (asked_of c.value) k → mark_of t c (length old) ≡ k
  says_mark o = mark_only (admitted (sym p.says)) c.row o
