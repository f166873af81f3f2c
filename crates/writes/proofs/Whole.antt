-- The outcomes of the public call.
use mathlib.Core.Path.{◌≡◌, refl, sym, ap, ◌∙◌}
use mathlib.Core.Bool.{true, false, cond}
use mathlib.Core.List.{List}
use Prim.Native.Nat.{ℕ, ◌+◌, ◌≤◌, ◌<◌}
use native.Mathlib.Omega.{arith}
use borrow.Author.Tests.{le-leb, lt-leb, lt-ltb, le-ltb}
use lib.Dec.{eqb}
use lib.IntN.{ℤ}
use lib.ListN.{length}
use Rattle.layout.specs.rule.Layout.{header_of, most_rows, row_base, row_size}
use Rattle.layout.specs.rule.Row.{row_at}
use Rattle.layout.specs.declared.Header.{Header}
use Rattle.layout.specs.declared.Row.{Row}
use Rattle.fields.specs.rule.Field as field
use Rattle.fields.specs.rule.Row.{Fit, fits, other_type, not_legal, too_many, fit_of, written_of}
use Rattle.sound.specs.rule.Sound.{well_formed}
use Rattle.sound.specs.rule.Rows.{rows_of, length_of}
use Rattle.sound.specs.Rows.{row_facts}
use Rattle.writes.specs.declared.Value.{Value}
use Rattle.writes.specs.declared.Wrote.{Wrote}
use Rattle.writes.specs.declared.Wrote.TheVariants.{NotWellFormed, NoRow, TooShort}
use Rattle.writes.specs.rule.Write.{lent_value}
use Rattle.writes.specs.Write.{WrittenBy, Ready, ready, answer_by, left_by}
use Rattle.writes.specs.rule.Public.{write_number, fit_number, refusal_of, record_after, Written}

-- the number of an answer by the fit is the fit's, and the record is kept but where it is 0
number_by : (f : Fit) → write_number (answer_by f) ≡ fit_number f
unfolding answer_by write_number fit_number
number_by fits = refl
number_by other_type = refl
number_by not_legal = refl
number_by too_many = refl

left_by_lem : (f : Fit) (new old : List ℕ) → left_by f new old ≡ cond (eqb (fit_number f) 0) new old
unfolding left_by fit_number
left_by_lem fits new old = refl
left_by_lem other_type new old = refl
left_by_lem not_legal new old = refl
left_by_lem too_many new old = refl

module _ (t : List ℤ) (i : ℕ) (x : field.Value) (old : List ℕ) where
  pub not_formed : well_formed t ≡ false → Written t i x old old (write_number NotWellFormed)
  unfolding refusal_of record_after write_number
  not_formed e = record { says = rw e; leaves = rw e }

  module _ (good : well_formed t ≡ true) where
    pub no_row : rows_of t ≤ i → Written t i x old old (write_number NoRow)
    unfolding refusal_of record_after write_number
    no_row h = record { says = rw (good, le-leb (rows_of t) i h); leaves = rw (good, le-leb (rows_of t) i h) }

    pub too_short : i < rows_of t → length old < length_of t → Written t i x old old (write_number TooShort)
    unfolding refusal_of record_after write_number
    too_short h l = record {
      says = rw (good, lt-leb (rows_of t) i h, lt-ltb (length old) (length_of t) l);
      leaves = rw (good, lt-leb (rows_of t) i h, lt-ltb (length old) (length_of t) l);
    }

    refusal_is : i < rows_of t → length_of t ≤ length old → refusal_of t i x (length old) ≡ fit_number (fit_of t (rows_of t) (row_at t i) x)
    unfolding refusal_of
    refusal_is h l = rw (good, lt-leb (rows_of t) i h, le-ltb (length old) (length_of t) l)

-- a write to the row that was read
module _ (t : List ℤ) (i : ℕ) (old : List ℕ) (good : well_formed t ≡ true) (h : Header) (e : h ≡ header_of t) (here : i < h.rows) where
  below : i < rows_of t
  below = rw e at here

  -- the row can be read
  pub row_stands : (i ≤ most_rows) × (row_base i + row_size ≤ length t)
  row_stands = let f = (row_facts t good i below).lines in (omega (arith, f.few_rows, below), omega (arith, f.stand, below))

  module _ (long : h.length ≤ length old) (r : Row) (q : r ≡ row_at t i) where
    long_enough : length_of t ≤ length old
    long_enough = rw e at long

    pub row_ready : Ready r.kind t h.rows (length old) r
    row_ready = rw (q, e) (ready (length old) (row_facts t good i below) long_enough)

    pub row_written : {value : Value} {list : List ℤ} {text : List ℕ} {new : List ℕ} {a : Wrote}
        → WrittenBy r.kind t h.rows r value list text old new a → Written t i (lent_value value list text) old new (write_number a)
    unfolding record_after written_of
    row_written {value} {list} {text} {new} {a} w =
        let w' : WrittenBy (row_at t i).kind t (rows_of t) (row_at t i) value list text old new a = rw (q, e) at w in
        let x : field.Value = lent_value value list text in
        let f : Fit = fit_of t (rows_of t) (row_at t i) x in
        record {
          says = ap write_number w'.says ∙ number_by f ∙ sym (refusal_is t i x old good below long_enough);
          leaves = w'.leaves ∙ left_by_lem f (written_of t (rows_of t) (row_at t i) x old) old
              ∙ rw (refusal_is t i x old good below long_enough);
        }
