-- What follows from rule/Rows.antt, and what the code keeps.
use Rattle.std.specs.Prelude.{◌≡◌, refl, ◌⊎◌, Bool, true, false, cond, not, ◌&&◌, ◌||◌, List, ℕ, ◌+◌, ◌*◌, ◌^◌, ◌≤◌, ◌<◌, max, eqb}
use Rattle.std.specs.Prelude.{leb, ℤ}
use Rattle.std.proofs.Common.{sym, ap, ◌∙◌, le_trans, lt_of_le_of_lt}
use Rattle.std.proofs.Math.Logic.{inl, inr, ⊎_elim}
use native.Mathlib.Omega.{arith}
use borrow.Author.Tests.{eqb-true, leb-true, eq-eqb}
use Rattle.std.specs.Int.Signed.{le_z}
use Rattle.below.specs.rule.Below.{max_below}
use Rattle.below.specs.Below.{and_both, and_left, and_right, either_true, holds_not}
use Rattle.below.specs.Below.{all_at_lem, any_some, max_at, max_least}
use Rattle.cells.specs.rule.Cell.{cell, eq_z}
use Rattle.cells.specs.Cell.{same_true}
use Rattle.cells.specs.Order.{le_join}
use Rattle.layout.specs.rule.Layout.{line_size, line_base, header_of}
use Rattle.layout.specs.rule.Row.{row_of, row_at, kind_of}
use Rattle.layout.specs.Row.{kind_cases}
use Rattle.layout.specs.declared.Columns.{Columns}
use Rattle.layout.specs.declared.Row.{Row}
use Rattle.layout.specs.declared.Spread.TheVariants.{Bits, Fields}
use Rattle.layout.specs.declared.Kind.{Kind}
use Rattle.layout.specs.declared.Kind.TheVariants.{Single, Multiple, Quantity, Character, Logical}
use Rattle.widths.specs.rule.Width.{need, fits_kind, lowest, highest, size_of, decimals_of}
use Rattle.widths.specs.Width.{need_between, need_most, need_some, Valued, most_width}
use Rattle.widths.specs.Width.{size_small}
use Rattle.fields.specs.rule.Legal.{legal, in_range, on_line, line_value}
use Rattle.fields.specs.Facts.{LineFacts, PositionFacts, WidthFacts, KindFacts, RowFacts}
use Rattle.uses.specs.rule.Uses.{kind_good}
use Rattle.sound.specs.rule.Sound.{value_at, range_good, values_fit, lines_good, values_good, range_width}
use Rattle.sound.specs.rule.Sound.{widest, width_good, room_good, holds_width, widths_good}
use Rattle.sound.specs.rule.Sound.{row_good, columns_of, finish_at, highest_finish, lines_before, good_at, rows_good, well_formed}
use Rattle.sound.specs.Block.{Standing}
use Rattle.sound.specs.Given.{ColumnFacts, column_facts, sub_some, head_standing, head_some}
use Rattle.sound.specs.rule.Rows.{rows_of, length_of}

-- ---- a row's numbers, for any kind k in place of its own
module _ (t : List ℤ) (v : ℕ) (r : Row) where
  -- the width that the row's numbers would have
  abbrev pub width_as : Kind → ℕ
  width_as k =
      max (cond r.range (max (need k r.from) (need k r.to)) 0)
      (max_below r.lines (λ j. need k (value_at t v r.before j)))

  -- its numbers fit k
  pub record FitAs (k : Kind) : Type 0 where
    pub from_fits : r.range ≡ true → fits_kind k r.from ≡ true
    pub to_fits : r.range ≡ true → fits_kind k r.to ≡ true
    pub line_fits : (j : ℕ) → j < r.lines → fits_kind k (value_at t v r.before j) ≡ true

  range_cases : (k : Kind) (m : ℕ) → FitAs k → ((z : ℤ) → fits_kind k z ≡ true → need k z ≤ m) → (b : Bool) → r.range ≡ b
      → cond b (max (need k r.from) (need k r.to)) 0 ≤ m
  range_cases k m u g true e = omega (arith, g r.from (u.from_fits e), g r.to (u.to_fits e))
  range_cases k m u g false e = omega arith

  -- no number is wider than m: nor is the width
  pub width_most : (k : Kind) (m : ℕ) → FitAs k → ((z : ℤ) → fits_kind k z ≡ true → need k z ≤ m) → width_as k ≤ m
  width_most k m u g =
      omega (
        arith,
        range_cases k m u g r.range refl,
        max_least (λ j. need k (value_at t v r.before j)) r.lines m (λ j l. g (value_at t v r.before j) (u.line_fits j l)),
      )

  -- each number is at most as wide
  pub from_within : (k : Kind) → r.range ≡ true → max (need k r.from) (need k r.to) ≤ width_as k
  from_within k e = rw e (omega arith)

  pub line_within : (k : Kind) (j : ℕ) → j < r.lines → need k (value_at t v r.before j) ≤ width_as k
  line_within k j l = omega (arith, max_at (λ i. need k (value_at t v r.before i)) r.lines j l)

  -- a range or a line: a byte at least
  pub width_some : (k : Kind) → FitAs k → Valued k → (r.range ≡ true) ⊎ (1 ≤ r.lines) → 1 ≤ width_as k
  width_some k u h g =
      ⊎_elim
      (λ e. omega (arith, need_some k r.from h (u.from_fits e), from_within k e))
      (λ l. omega (arith, need_some k (value_at t v r.before 0) h (u.line_fits 0 l), line_within k 0 l))
      g

  -- ---- a good row's numbers fit its kind
  range_and : range_good r ≡ true → r.range ≡ true
      → (le_z r.from r.to && (fits_kind r.kind r.from && fits_kind r.kind r.to)) ≡ true
  range_and g e = go r.range e g
    where
      go : (b : Bool) → b ≡ true
          → (not b || (le_z r.from r.to && (fits_kind r.kind r.from && fits_kind r.kind r.to))) ≡ true
          → (le_z r.from r.to && (fits_kind r.kind r.from && fits_kind r.kind r.to)) ≡ true
      go true e g = g
      go false e g = holds_not e refl

  range_fits : range_good r ≡ true → r.range ≡ true → (fits_kind r.kind r.from && fits_kind r.kind r.to) ≡ true
  range_fits g e = and_right (le_z r.from r.to) _ (range_and g e)

  pub good_fits : values_good t v r ≡ true → FitAs r.kind
  unfolding values_good lines_good values_fit
  good_fits g =
      let a = and_both g in
      let b = and_both (and_both a.1).0 in
      record {
        from_fits = λ e. and_left (fits_kind r.kind r.from) _ (range_fits a.0 e);
        to_fits = λ e. and_right (fits_kind r.kind r.from) _ (range_fits a.0 e);
        line_fits = λ j l. all_at_lem (λ i. fits_kind r.kind (value_at t v r.before i)) r.lines j l b.1;
      }

-- the value of a row's line is that of one of the lines from its first on
pub line_value_lem : (t : List ℤ) (v : ℕ) (r : Row) (j : ℕ) → line_value t v r j ≡ value_at t v r.before j
line_value_lem t v r j = let p : line_base v (r.before + j) ≡ line_base v r.before + line_size * j = omega arith in ap (cell t) p

-- ---- a legal number, by its range or its line
module _ (t : List ℤ) (v : ℕ) (r : Row) (u : FitAs t v r r.kind) where
  -- in the range: between its ends
  pub record Between (z : ℤ) : Type 0 where
    pub ranged : r.range ≡ true
    pub above : le_z r.from z ≡ true
    pub below : le_z z r.to ≡ true

  between : (z : ℤ) → in_range r z ≡ true → Between z
  unfolding in_range
  between z e =
      let b = and_right r.range (le_z r.from z && le_z z r.to) e in
      record {
        ranged = and_left r.range _ e;
        above = and_left (le_z r.from z) _ b;
        below = and_right (le_z r.from z) _ b;
      }

  -- what holds between the range's ends and at each line's value holds of each legal number
  pub legal_cases : {A : Type 0} (z : ℤ) → legal t v r z ≡ true → (Between z → A)
      → ((j : ℕ) → j < r.lines → value_at t v r.before j ≡ z → A) → A
  unfolding legal on_line
  legal_cases z e f g =
      ⊎_elim (λ p. f (between z p))
      (λ p. any_some (λ k. eq_z (line_value t v r k) z) r.lines p
      (λ j l q. g j l (sym (line_value_lem t v r j) ∙ same_true (line_value t v r j) z q)))
      (either_true (in_range r z) _ e)

  lower : (z : ℤ) → fits_kind r.kind z ≡ true → le_z (lowest r.kind) z ≡ true
  lower z e = and_left (le_z (lowest r.kind) z) _ e

  upper : (z : ℤ) → fits_kind r.kind z ≡ true → le_z z (highest r.kind) ≡ true
  upper z e = and_right (le_z (lowest r.kind) z) _ e

  pub legal_least : (z : ℤ) → legal t v r z ≡ true → le_z (lowest r.kind) z ≡ true
  legal_least z e =
      legal_cases z e (λ b. le_join (lowest r.kind) r.from z (lower r.from (u.from_fits b.ranged)) b.above)
      (λ j l q. rw q at (lower (value_at t v r.before j) (u.line_fits j l)))

  pub legal_most : (z : ℤ) → legal t v r z ≡ true → le_z z (highest r.kind) ≡ true
  legal_most z e =
      legal_cases z e (λ b. le_join z r.to (highest r.kind) b.below (upper r.to (u.to_fits b.ranged)))
      (λ j l q. rw q at (upper (value_at t v r.before j) (u.line_fits j l)))

  small : (z : ℤ) → fits_kind r.kind z ≡ true → size_of z < 10 ^ 16
  small z e = lt_of_le_of_lt (size_small r.kind z (lower z e) (upper z e)) (omega arith)

  pub legal_fits : (z : ℤ) → legal t v r z ≡ true → need r.kind z ≤ width_as t v r r.kind
  legal_fits z e =
      legal_cases z e
      (λ b. le_trans
      (need_between r.kind r.from z r.to b.above b.below (small r.from (u.from_fits b.ranged))
      (small r.to (u.to_fits b.ranged)))
      (from_within t v r r.kind b.ranged))
      (λ j l q. rw q at (line_within t v r r.kind j l))

-- ---- a row of good columns, values and widths
module _ (t : List ℤ) (v e before : ℕ) (c : Columns) (f : ColumnFacts e before c) where
  -- what is asked of a kind k in place of the row's own, and what it gives
  abbrev pub KindGiven : Kind → Type 0
  KindGiven k =
      FitAs t v (row_of c) k → width_good k c.width (width_as t v (row_of c) k) ≡ true → room_good k (row_of c) ≡ true
      → KindFacts k (row_of c)

  values_some : c.kind ≤ 3 → ((row_of c).range ≡ true) ⊎ (1 ≤ (row_of c).lines)
  unfolding row_of
  values_some h =
      ⊎_elim (λ l. absurd (omega arith))
      (λ g. ⊎_elim (λ q. inl (eq-eqb c.range 1 q)) (λ l. inr l) g)
      f.given

  module _ (k : Kind) (h : Valued k) (d : decimals_of k ≤ 9) (l : c.kind ≤ 3) (u : FitAs t v (row_of c) k)
      (w : eqb c.width (width_as t v (row_of c) k) ≡ true) where
    few : c.width ≤ most_width k
    few = rw (eqb-true c.width (width_as t v (row_of c) k) w) (width_most t v (row_of c) k (most_width k) u (λ z e. need_most k z d e))

    some : 1 ≤ c.width
    some = rw (eqb-true c.width (width_as t v (row_of c) k) w) (width_some t v (row_of c) k u h (values_some l))

  holds : holds_width (row_of c) ≡ true → c.start + c.width ≤ c.finish + 1
  unfolding row_of
  holds e = leb-true (c.start + c.width) (c.finish + 1) e

  wide : (m : ℕ) → 1 ≤ c.width → c.width ≤ m → holds_width (row_of c) ≡ true → WidthFacts m (row_of c)
  unfolding row_of
  wide m a b e = record { some = a; few = b; room = holds e }

  single_given : c.kind ≡ 1 → KindGiven Single
  unfolding width_good room_good decimals_of most_width
  single_given q u w r = wide 4 (some Single tt (omega arith) (omega arith) u w) (few Single tt (omega arith) (omega arith) u w) r

  bits_given : c.kind ≡ 2 → c.subfields ≡ 0 → KindGiven (Multiple Bits)
  unfolding width_good room_good decimals_of most_width
  bits_given q s u w r =
      wide 9999 (some (Multiple Bits) tt (omega arith) (omega arith) u w)
      (few (Multiple Bits) tt (omega arith) (omega arith) u w) r

  fields_given : c.kind ≡ 2 → (c.subfields ≡ 0 → ⊥) → KindGiven (Multiple (Fields c.subfields c.subwidth))
  unfolding width_good room_good decimals_of most_width row_of
  fields_given q s u w r =
      let k = Multiple (Fields c.subfields c.subwidth) in
      record {
        some = some k tt (omega arith) (omega arith) u w;
        few = few k tt (omega arith) (omega arith) u w;
        subfields = (sub_some e before c f s).0;
        holds =
            leb-true c.width c.subwidth
            (and_left (leb c.width c.subwidth) (leb (c.start + c.subfields * c.subwidth) (c.finish + 1)) r);
        room =
            leb-true (c.start + c.subfields * c.subwidth) (c.finish + 1)
            (and_right (leb c.width c.subwidth) (leb (c.start + c.subfields * c.subwidth) (c.finish + 1)) r);
      }

  quantity_given : c.kind ≡ 3 → KindGiven (Quantity (record { decimals = c.decimals; point = c.point }))
  unfolding width_good room_good decimals_of most_width
  quantity_given q u w r =
      let k = Quantity (record { decimals = c.decimals; point = c.point }) in
      record {
        decimals = f.decimals;
        point = f.point;
        plain = λ z. ⊎_elim (λ p. p) (λ p. absurd (omega arith)) f.plain;
        share = λ z. ⊎_elim (λ p. absurd (omega arith)) (λ p. p) f.shares;
        width = wide 17 (some k tt f.decimals (omega arith) u w) (few k tt f.decimals (omega arith) u w) r;
      }

  text_given : KindGiven Character
  unfolding width_good room_good
  text_given u w r =
      wide 4096 (leb-true 1 c.width (and_left (leb 1 c.width) (leb c.width 4096) w))
      (leb-true c.width 4096 (and_right (leb 1 c.width) (leb c.width 4096) w)) r

  truth_given : KindGiven Logical
  unfolding width_good room_good
  truth_given u w r = let q = eqb-true c.width 1 w in wide 1 (omega arith) (omega arith) r

  pub kind_given : KindGiven (kind_of c)
  kind_given = kind_cases c KindGiven single_given bits_given fields_given quantity_given (λ q. text_given) truth_given

-- the width is that of the numbers, or none has a width
width_holds : (k : Kind) (w m : ℕ) (z : ℤ) → width_good k w m ≡ true → need k z ≤ m → need k z ≤ w
unfolding width_good need
width_holds Single w m z e h = omega (arith, eqb-true w m e)
width_holds (Multiple Bits) w m z e h = omega (arith, eqb-true w m e)
width_holds (Multiple (Fields n b)) w m z e h = omega (arith, eqb-true w m e)
width_holds (Quantity f) w m z e h = omega (arith, eqb-true w m e)
width_holds Character w m z e h = omega arith
width_holds Logical w m z e h = omega arith

module _ (t : List ℤ) (g : well_formed t ≡ true) where
  pub record Parts : Type 0 where
    pub standing : Standing t (rows_of t) 0 (header_of t).lines
    pub rows : rows_good t (header_of t) ≡ true
    pub some_rows : 1 ≤ rows_of t
    pub kind : kind_good t (header_of t) ≡ true

  pub parts : Parts
  unfolding well_formed
  parts =
      let a = and_both (and_both (and_both g).0).0 in
      let b = and_both a.0 in
      record {
        standing = head_standing t (header_of t) b.0 b.1;
        rows = a.1;
        some_rows = head_some (header_of t) b.0;
        kind = (and_both g).1;
      }

  row_good_lem : (i : ℕ) → i < rows_of t → row_good t (rows_of t) (header_of t).lines (lines_before t i) (columns_of t i) ≡ true
  unfolding rows_good
  row_good_lem i l = all_at_lem (good_at t (rows_of t) (header_of t).lines) (rows_of t) i l (and_both (and_both parts.rows).0).0

  columns : (i : ℕ) → i < rows_of t → ColumnFacts (header_of t).lines (lines_before t i) (columns_of t i)
  unfolding row_good
  columns i l = column_facts (header_of t).lines (lines_before t i) (columns_of t i) (and_both (row_good_lem i l)).0

  -- L is the highest finish
  length_is : highest_finish t (rows_of t) ≡ length_of t
  unfolding rows_good
  length_is = eqb-true (highest_finish t (rows_of t)) (length_of t) (and_both parts.rows).1

  pub length_low : length_of t ≤ 16384
  length_low = rw (← length_is) (max_least (finish_at t) (rows_of t) 16384 (λ i l. (columns i l).low))

  finish_inside : (i : ℕ) → i < rows_of t → (columns_of t i).finish ≤ length_of t
  finish_inside i l = rw (← length_is) (max_at (finish_at t) (rows_of t) i l)

  module _ (i : ℕ) (l : i < rows_of t) where
    values : values_good t (rows_of t) (row_at t i) ≡ true
    unfolding row_good
    values = (and_both (and_both (row_good_lem i l)).1).0

    width : width_good (kind_of (columns_of t i)) (columns_of t i).width (widest t (rows_of t) (row_at t i)) ≡ true
    unfolding row_good widths_good row_of
    width = (and_both (and_both (and_both (row_good_lem i l)).1).1).0

    room : room_good (kind_of (columns_of t i)) (row_at t i) ≡ true
    unfolding row_good widths_good row_of
    room = (and_both (and_both (and_both (row_good_lem i l)).1).1).1

    fit : FitAs t (rows_of t) (row_at t i) (row_at t i).kind
    fit = good_fits t (rows_of t) (row_at t i) values

    line_facts : LineFacts t (rows_of t) (row_at t i)
    unfolding row_of
    line_facts =
        let s = parts.standing in
        let b = columns i l in
        record { few_rows = s.few_rows; few_lines = omega arith; stand = omega arith }

    position_facts : PositionFacts (length_of t) (row_at t i)
    unfolding row_of
    position_facts = record {
      from_one = (columns i l).from_one;
      ordered = (columns i l).ordered;
      inside = finish_inside i l;
      low = length_low;
    }

    kind_facts : KindFacts (kind_of (columns_of t i)) (row_at t i)
    unfolding widest range_width row_of
    kind_facts = kind_given t (rows_of t) (header_of t).lines (lines_before t i) (columns_of t i) (columns i l) fit width room

    pub row_facts : RowFacts t (rows_of t) (length_of t) (row_at t i)
    unfolding widest range_width row_of
    row_facts = record {
      lines = line_facts;
      position = position_facts;
      kind = kind_facts;
      least = legal_least t (rows_of t) (row_at t i) fit;
      most = legal_most t (rows_of t) (row_at t i) fit;
      fits =
          λ z e. width_holds (kind_of (columns_of t i)) (columns_of t i).width (widest t (rows_of t) (row_at t i)) z width
          (legal_fits t (rows_of t) (row_at t i) fit z e);
    }
