-- The rows of a survey's table: each passes the tests of one row, and no two have the same ident.
use Rattle.std.specs.Prelude.{◌≡◌, true, not, List, ◌∷◌, length}
use Rattle.std.proofs.Math.Path.{refl, ap}
use Rattle.std.proofs.Common.{sym, ◌∙◌, eq-eqb, le-leb}
use Prim.Native.Nat.{ℕ, ◌+◌, ◌*◌, ◌≤◌, ◌<◌, max}
use native.Mathlib.Omega.{arith}
use Rattle.std.proofs.Math.IntN.{ℤ}
use Rattle.below.specs.Below.{both_and, all_of, all_at_lem}
use Rattle.cells.specs.rule.Cell.{eq_z}
use Rattle.strides.specs.rule.Stride.{stride_at, unlike, number_new, all_differ}
use Rattle.layout.specs.rule.Layout.{header_size, row_size, line_size, line_at}
use Rattle.layout.specs.rule.Row.{kind_of, row_of}
use Rattle.layout.specs.declared.Columns.{Columns}
use Rattle.layout.specs.declared.Row.{Row}
use Rattle.layout.specs.declared.Kind.{Kind}
use Rattle.layout.specs.declared.Kind.TheVariants.{Single, Multiple, Quantity, Character, Logical}
use Rattle.widths.specs.rule.Width.{need}
use Rattle.sound.specs.rule.Sound.{value_at, plain_at, line_plain, lines_plain, values_fit, widest, range_width, lines_good, values_good}
use Rattle.sound.specs.rule.Sound.{widths_good, columns_good, row_good, lines_at, finish_at, lines_before, good_at, idents_differ}
use Rattle.uses.specs.rule.Uses.{unused}
use Rattle.values.specs.Line.{number_at, cells_of}
use Rattle.measures.specs.Width.{plain_columns, widened, full_columns, lines_width, widest_of, width_of}
use Rattle.measures.specs.Survey.{Variable, lines_in, counted_in, columns_in, holds_in, lines_all}
use Rattle.measures.specs.Good.{Good}
use Rattle.built.specs.Same.{max_same, fit_same, differ_same}
use Rattle.built.specs.Nth.{Nth, further, nth, sum_all, lines_join, ident_new}
use Rattle.built.specs.Cells.{laid, columns_of_lem, ident_of, value_of, line_of_lem}

-- w turns on the widest number only
width_by : (k : Kind) (r s : Row) (f g : ℕ → ℤ) (size : ℕ) → widest_of r f ≡ widest_of s g → width_of k r f size ≡ width_of k s g size
unfolding width_of
width_by Single r s f g size e = e
width_by (Multiple m) r s f g size e = e
width_by (Quantity q) r s f g size e = e
width_by Character r s f g size e = refl
width_by Logical r s f g size e = refl

-- ---- the columns of a variable before whose lines b others stand
module _ (b : ℕ) (v : Variable) where
  lines_column : (columns_in b v).lines ≡ length (lines_in v)
  unfolding columns_in full_columns widened plain_columns counted_in
  lines_column = omega arith

  pub before_column : (columns_in b v).before ≡ b
  unfolding columns_in full_columns widened plain_columns
  before_column = refl

  -- "the rows of 1.1 files carry 0 in both"
  pub unused_column : unused (columns_in b v) ≡ true
  unfolding columns_in full_columns widened plain_columns
  unused_column = refl

  finish_column : (columns_in b v).finish ≡ v.head.finish
  unfolding columns_in full_columns widened plain_columns
  finish_column = refl

  width_column : (columns_in b v).width ≡ width_of (kind_of (columns_in b v)) (row_of (columns_in b v)) (number_at (lines_in v)) v.rest.size
  unfolding columns_in full_columns widened plain_columns counted_in row_of kind_of widest_of range_width
  width_column =
      let f = number_at (lines_in v) in
      width_by _ (row_of (plain_columns v.head (counted_in b v.rest) b)) (row_of (columns_in b v)) f f v.rest.size refl

module _ (t : List ℤ) (l : List Variable) where
  abbrev T : List ℤ
  T = laid t l

  -- ---- what is counted over the rows
  pub lines_here : (i : ℕ) (r : Nth l i) → lines_at T i ≡ length (lines_in r.variable)
  lines_here i r = ap (λ (c : Columns). c.lines) (columns_of_lem t r) ∙ lines_column (lines_all r.before) r.variable

  pub finish_here : (i : ℕ) (r : Nth l i) → finish_at T i ≡ r.variable.head.finish
  finish_here i r = ap (λ (c : Columns). c.finish) (columns_of_lem t r) ∙ finish_column (lines_all r.before) r.variable

  pub lines_before_lem : {i : ℕ} (r : Nth l i) → lines_before T i ≡ lines_all r.before
  lines_before_lem r =
      rw (← r.here) (sum_all r.earlier (lines_at T) (λ j s. lines_here j (further s (r.variable ∷ r.behind) r.is)))

  -- ---- row i
  module _ {i : ℕ} (r : Nth l i) where
    abbrev b : ℕ
    b = lines_all r.before

    abbrev v : Variable
    v = r.variable

    abbrev c : Columns
    c = columns_in b v

    -- the values on its lines, and what the variable's lines say
    abbrev f : ℕ → ℤ
    f = value_at T (length l) c.before

    abbrev said : ℕ → ℤ
    said = number_at (lines_in v)

    value_here_lem : (k : ℕ) → k < c.lines → f k ≡ said k
    value_here_lem k h = rw (before_column b v) (value_of t r k (omega (arith, lines_column b v)))

    within_lines : b + c.lines ≤ lines_all l
    unfolding lines_all
    within_lines = omega (arith, lines_column b v, lines_join r.before (v ∷ r.behind), ap lines_all r.is)

    columns_good_lem : columns_good (lines_all l) b c ≡ true
    unfolding columns_good
    columns_good_lem =
        both_and (both_and (both_and (both_and r.good.counts r.good.places) r.good.lacked)
        (eq-eqb c.before b (before_column b v)))
        (le-leb (b + c.lines) (lines_all l) within_lines)

    plain_good : lines_plain T (length l) (row_of c).before (row_of c).lines ≡ true
    unfolding lines_plain row_of
    plain_good =
        rw (before_column b v, lines_column b v)
        (all_of (plain_at T (length l) b) (length (lines_in v))
        (λ k h. ap line_plain (line_of_lem t r k h)
        ∙ all_at_lem (λ k. line_plain (line_at (cells_of (lines_in v)) (line_size * k))) (length (lines_in v)) k h r.good.plain))

    values_good_lem : values_good T (length l) (row_of c) ≡ true
    unfolding values_good lines_good row_of
    values_good_lem =
        both_and r.good.range
        (both_and (both_and plain_good
        (fit_same f said c.lines value_here_lem (kind_of c) (ap (values_fit (kind_of c) said) (lines_column b v) ∙ r.good.fits)))
        (differ_same f said c.lines value_here_lem (ap (all_differ said) (lines_column b v) ∙ r.good.differ)))

    widest_is : widest T (length l) (row_of c) ≡ widest_of (row_of c) said
    unfolding widest widest_of lines_width row_of
    widest_is =
        ap (max (range_width (row_of c)))
        (max_same c.lines (λ k. need (kind_of c) (f k)) (λ k. need (kind_of c) (said k))
        (λ k h. ap (need (kind_of c)) (value_here_lem k h)))

    pub width_here : c.width ≡ width_of (kind_of c) (row_of c) f v.rest.size
    unfolding widest widest_of lines_width row_of
    width_here =
        width_column b v ∙ width_by (kind_of c) (row_of c) (row_of c) said f v.rest.size (sym widest_is)

    widths_good_lem : widths_good T (length l) (row_of c) ≡ true
    unfolding widths_good holds_in row_of
    widths_good_lem = rw widest_is (both_and r.good.width r.good.holds)

    pub row_good_lem : good_at T (length l) (lines_all l) i ≡ true
    unfolding row_good
    row_good_lem = rw (lines_before_lem r, columns_of_lem t r) (both_and columns_good_lem (both_and values_good_lem widths_good_lem))

  -- ---- no ident twice
  pub idents_differ_lem : Good l → idents_differ T (length l) ≡ true
  unfolding idents_differ all_differ number_new eq_z
  idents_differ_lem g =
      all_of (number_new f) (length l)
      (λ k h. all_of (unlike f k) k (λ j m. let r = nth g k h in apart r (nth r.earlier j (omega (arith, r.here)))))
    where
      f : ℕ → ℤ
      f = stride_at T header_size row_size

      apart : {k j : ℕ} (r : Nth l k) → Nth r.before j → unlike f k j ≡ true
      apart r s =
          rw (ident_of t r, ident_of t (further s (r.variable ∷ r.behind) r.is))
          (ap not (ident_new r s))
