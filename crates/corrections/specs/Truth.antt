-- What follows from rule/Truth.antt, and what the code keeps.
use Rattle.std.specs.Prelude.{◌≡◌, refl, true, false, List, ℕ, ◌≤◌, ◌<◌, ℤ}
use Rattle.std.proofs.Common.{sym}
use borrow.Author.Tests.{le-leb, lt-leb, lt-ltb, le-ltb}
use Rattle.layout.specs.rule.Layout.{header_of}
use Rattle.layout.specs.rule.Row.{row_at}
use Rattle.layout.specs.declared.Header.{Header}
use Rattle.layout.specs.declared.Kind.{Kind}
use Rattle.layout.specs.declared.Kind.TheVariants.{Single, Multiple, Quantity, Character, Logical}
use Rattle.layout.specs.declared.Row.{Row}
use Rattle.fields.specs.rule.Field.{truth}
use Rattle.fields.specs.rule.Row.{fits_by}
use Rattle.sound.specs.rule.Sound.{well_formed}
use Rattle.sound.specs.rule.Rows.{rows_of, length_of}
use Rattle.writes.specs.rule.Public.{fit_number, refusal_of}
use Rattle.corrections.specs.rule.Truth.{no_truth, bad_truth}

-- ---- by the row's kind: "every other kind its own type"
unfoldable pub kind_number : Kind → ℕ
kind_number Single = 26
kind_number (Multiple s) = 26
kind_number (Quantity f) = 26
kind_number Character = 26
kind_number Logical = 27

pub kind_number_lem : (k : Kind) (t : List ℤ) (v : ℕ) (r : Row) → no_truth (fit_number (fits_by k t v r (truth false))) ≡ kind_number k
unfolding no_truth fit_number fits_by kind_number
kind_number_lem Single t v r = refl
kind_number_lem (Multiple s) t v r = refl
kind_number_lem (Quantity f) t v r = refl
kind_number_lem Character t v r = refl
kind_number_lem Logical t v r = refl

-- ---- what is no truth, test by test
module _ (t : List ℤ) (i n : ℕ) where
  pub bad_table_lem : well_formed t ≡ false → 20 ≡ bad_truth t i n
  unfolding refusal_of no_truth
  bad_table_lem e = rw e

  module _ (good : well_formed t ≡ true) (h : Header) (e : h ≡ header_of t) where
    pub bad_row : h.rows ≤ i → 21 ≡ bad_truth t i n
    unfolding refusal_of no_truth
    bad_row l = rw (good, le-leb (rows_of t) i (rw e at l))

    pub bad_length : i < h.rows → n < h.length → 22 ≡ bad_truth t i n
    unfolding refusal_of no_truth
    bad_length l m = rw (good, lt-leb (rows_of t) i (rw e at l), lt-ltb n (length_of t) (rw e at m))

    pub bad_kind : i < h.rows → h.length ≤ n → (r : Row) → r ≡ row_at t i → kind_number r.kind ≡ bad_truth t i n
    unfolding refusal_of
    bad_kind l m r q =
        rw (good, lt-leb (rows_of t) i (rw e at l), le-ltb n (length_of t) (rw e at m), q)
        (sym (kind_number_lem (row_at t i).kind t (rows_of t) (row_at t i)))
