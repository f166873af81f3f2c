-- What follows from rule/Correction.antt, and what the code keeps.
use Rattle.std.specs.Prelude.{◌≡◌, refl, Bool, true, false, cond, ℕ, ◌≤◌, ◌<◌, eqb, leb, ltb, ℤ, pos, length}
use Rattle.std.proofs.Common.{ap, arith}
use mathlib.Core.List.{List, [], ◌∷◌}
use borrow.Author.Tests.{ltb-false, lt-ltb, le-ltb, le-leb, lt-leb, eq-eqb, ne_eqb}
use Rattle.layout.specs.rule.Layout.{header_of}
use Rattle.layout.specs.rule.Row.{row_at}
use Rattle.layout.specs.declared.Header.{Header}
use Rattle.cells.specs.rule.Cell.{eq_z}
use Rattle.fields.specs.rule.Field as field
use Rattle.fields.specs.rule.Row.{written_of}
use Rattle.fieldlaws.specs.Corrections.{written_length}
use Rattle.sound.specs.rule.Sound.{well_formed}
use Rattle.sound.specs.rule.Rows.{rows_of, length_of}
use Rattle.writes.specs.declared.Value.{Value}
use Rattle.writes.specs.declared.Value.TheVariants.{Missing, Number, Truth}
use Rattle.writes.specs.rule.Write.{lent_value}
use Rattle.writes.specs.rule.Public.{refusal_of, record_after, Written}
use Rattle.corrections.specs.declared.Given.{Given}
use Rattle.corrections.specs.declared.Correction.{Correction}
use Rattle.corrections.specs.declared.Request.{Request}
use Rattle.corrections.specs.declared.Request.TheVariants.{Write, OtherTruth, OtherKind}
use Rattle.corrections.specs.rule.Truth.{bad_truth}
use Rattle.corrections.specs.rule.Correction.{Asked, asks, other_truth, other_kind, truth_asked, asked_of, mark_by, record_by}
use Rattle.corrections.specs.rule.Correction.{whole_refusal}

-- what `get_or` has past the end of a list
abbrev pub blank : Correction
blank = record { row = 0; value = record { kind = 0; number = pos 0 }; mark = 0 }

-- what the code's answer means, with a list and a text beside it that no correction uses
unfoldable pub meant : List ℤ → List ℕ → Request → Asked
meant list text (Write v) = asks (lent_value v list text)
meant list text OtherTruth = other_truth
meant list text OtherKind = other_kind

pub record Means (r : Request) (a : Asked) : Type 0 where
  pub so : (list : List ℤ) (text : List ℕ) → meant list text r ≡ a

-- a truth, by its number
module _ (z : ℤ) where
  pub truth_no : eq_z z (pos 0) ≡ true → Means (Write (Truth false)) (truth_asked z)
  unfolding meant lent_value truth_asked
  truth_no e = record { so = λ list text. rw e }

  pub truth_yes : eq_z z (pos 0) ≡ false → eq_z z (pos 1) ≡ true → Means (Write (Truth true)) (truth_asked z)
  unfolding meant lent_value truth_asked
  truth_yes e f = record { so = λ list text. rw (e, f) }

  pub truth_none : eq_z z (pos 0) ≡ false → eq_z z (pos 1) ≡ false → Means OtherTruth (truth_asked z)
  unfolding meant truth_asked
  truth_none e f = record { so = λ list text. rw (e, f) }

-- a value, by its kind
module _ (g : Given) where
  pub asks_missing : g.kind ≡ 0 → Means (Write Missing) (asked_of g)
  unfolding meant lent_value asked_of
  asks_missing e = record { so = λ list text. rw (eq-eqb g.kind 0 e) }

  module _ (one : g.kind ≡ 0 → ⊥) where
    pub asks_number : g.kind ≡ 1 → Means (Write (Number g.number)) (asked_of g)
    unfolding meant lent_value asked_of
    asks_number e = record { so = λ list text. rw (ne_eqb g.kind 0 one, eq-eqb g.kind 1 e) }

    module _ (two : g.kind ≡ 1 → ⊥) where
      pub asks_truth : {r : Request} → g.kind ≡ 4 → Means r (truth_asked g.number) → Means r (asked_of g)
      unfolding asked_of
      asks_truth e m = rw (ne_eqb g.kind 0 one, ne_eqb g.kind 1 two, eq-eqb g.kind 4 e) m

      pub asks_other : (g.kind ≡ 4 → ⊥) → Means OtherKind (asked_of g)
      unfolding meant asked_of
      asks_other f = record { so = λ list text. rw (ne_eqb g.kind 0 one, ne_eqb g.kind 1 two, ne_eqb g.kind 4 f) }

-- what was asked, and its write: the mark, and the record
module _ (t : List ℤ) (i : ℕ) {a : Asked} (old : List ℕ) where
  pub given_written : {v : Value} (list : List ℤ) (text : List ℕ) {new : List ℕ} {m : ℕ} → Means (Write v) a
      → Written t i (lent_value v list text) old new m → (m ≡ mark_by t i (length old) a) × (new ≡ record_by t i a old)
  unfolding meant mark_by record_by
  given_written list text q w = rw (← (q.so list text)) (w.says, w.leaves)

  pub given_no_truth : {m : ℕ} → Means OtherTruth a → m ≡ bad_truth t i (length old)
      → (m ≡ mark_by t i (length old) a) × (old ≡ record_by t i a old)
  unfolding meant mark_by record_by
  given_no_truth q e = rw (← (q.so [] [])) (e, refl)

  pub given_no_kind : {m : ℕ} → Means OtherKind a → m ≡ cond (leb (rows_of t) i) 21 26
      → (m ≡ mark_by t i (length old) a) × (old ≡ record_by t i a old)
  unfolding meant mark_by record_by
  given_no_kind q e = rw (← (q.so [] [])) (e, refl)

-- the number for another kind, by the row
module _ (t : List ℤ) (i : ℕ) (h : Header) (e : h ≡ header_of t) where
  pub other_row : h.rows ≤ i → ◌≡◌ {A = ℕ} 21 (cond (leb (rows_of t) i) 21 26)
  other_row l = rw (le-leb (rows_of t) i (rw e at l))

  pub other_here : i < h.rows → ◌≡◌ {A = ℕ} 26 (cond (leb (rows_of t) i) 21 26)
  other_here l = rw (lt-leb (rows_of t) i (rw e at l))

-- how many corrections are taken: all, or none where the call is turned away
unfoldable pub turns_of : ℕ → ℕ → ℕ
turns_of a n = cond (eqb a 0) n 0

-- ---- a call that is not turned away: the table is well formed, and the record long enough
pub record Admitted (t : List ℤ) (n : ℕ) : Type 0 where
  pub formed : well_formed t ≡ true
  pub long : length_of t ≤ n

pub admitted : {t : List ℤ} {n : ℕ} → whole_refusal t n ≡ 0 → Admitted t n
unfolding whole_refusal
admitted {t} {n} e = formed (well_formed t) refl e
  where
    longer : well_formed t ≡ true → (b : Bool) → ltb n (length_of t) ≡ b → ◌≡◌ {A = ℕ} (cond b 22 0) 0 → Admitted t n
    longer g true q f = absurd (omega arith)
    longer g false q f = record { formed = g; long = ltb-false n (length_of t) q }

    formed : (b : Bool) → well_formed t ≡ b → ◌≡◌ {A = ℕ} (cond b (cond (ltb n (length_of t)) 22 0) 20) 0 → Admitted t n
    formed true g f = longer g (ltb n (length_of t)) refl f
    formed false g f = absurd (omega arith)

-- the three numbers of the test
module _ (t : List ℤ) (n : ℕ) where
  pub not_formed : well_formed t ≡ false → 20 ≡ whole_refusal t n
  unfolding whole_refusal
  not_formed e = rw e

  module _ (good : well_formed t ≡ true) (h : Header) (e : h ≡ header_of t) where
    pub too_short : n < h.length → 22 ≡ whole_refusal t n
    unfolding whole_refusal
    too_short l = rw (good, lt-ltb n (length_of t) (rw e at l))

    pub long_enough : h.length ≤ n → 0 ≡ whole_refusal t n
    unfolding whole_refusal
    long_enough l = rw (good, le-ltb n (length_of t) (rw e at l))

-- ---- no write changes the record's length
after_length : (t : List ℤ) (i : ℕ) (x : field.Value) (old : List ℕ) → length (record_after t i x old) ≡ length old
unfolding record_after
after_length t i x old = go (eqb (refusal_of t i x (length old)) 0)
  where
    go : (b : Bool) → length (cond b (written_of t (rows_of t) (row_at t i) x old) old) ≡ length old
    go true = written_length t (rows_of t) (row_at t i) x old
    go false = refl

pub length_kept : (t : List ℤ) (i : ℕ) (a : Asked) (old : List ℕ) → length (record_by t i a old) ≡ length old
unfolding record_by
length_kept t i (asks x) old = after_length t i x old
length_kept t i other_truth old = refl
length_kept t i other_kind old = refl
