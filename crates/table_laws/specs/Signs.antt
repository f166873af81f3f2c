-- What follows from rule/Signs.antt, and what the code keeps.
use Rattle.std.specs.Prelude.{◌≡◌, Bool, ◌&&◌, ◌||◌, List, ℤ, pos, negsuc, length}
use Rattle.std.proofs.Math.Path.{refl, subst}
use Rattle.std.proofs.Math.Logic.{⊎_elim}
use Rattle.std.proofs.Math.Bool.{true, false, beq}
use Prim.Native.Nat.{ℕ, zero, suc, ◌+◌, ◌-◌, ◌*◌, ◌≤◌, ◌<◌}
use Rattle.std.proofs.Math.Nat.{le-mul_of_pos_right}
use Rattle.std.proofs.Common.{mul_comm}
use native.Mathlib.Omega.{arith}
use borrow.Author.Tests.{eqb-true, eq-eqb, ne_eqb, leb-true, le-leb, eqb-false}
use Rattle.std.proofs.Math.Dec.{eqb, leb}
use Rattle.std.specs.Int.Signed.{le_z}
use Rattle.below.specs.rule.Below.{sum_below}
use Rattle.below.specs.Below.{and_both, and_left, and_right, either_true, holds_not, all_at_lem, lt_or_le}
use Rattle.cells.specs.rule.Cell.{cell, count_of, eq_z}
use Rattle.cells.specs.Cell.{same_true}
use Rattle.layout.specs.rule.Layout.{row_base, line_base, lines_base, header_of, columns_at, line_at}
use Rattle.layout.specs.rule.Row.{kind_of, spread_of, row_of, row_at}
use Rattle.layout.specs.Row.{kind_cases}
use Rattle.layout.specs.declared.Columns.{Columns}
use Rattle.layout.specs.declared.Row.{Row}
use Rattle.layout.specs.declared.Spread.TheVariants.{Bits, Fields}
use Rattle.layout.specs.declared.Kind.{Kind}
use Rattle.layout.specs.declared.Kind.TheVariants.{Single, Multiple, Quantity, Character, Logical}
use Rattle.widths.specs.rule.Width.{lowest, highest, fits_kind}
use Rattle.fields.specs.rule.Legal.{line_value}
use Rattle.fields.specs.Facts.{KindFacts, SpreadFacts}
use Rattle.sound.specs.rule.Sound.{ident_good, texts_good, counts_good, places_good, range_lacked, columns_good}
use Rattle.sound.specs.rule.Sound.{row_good, columns_of, lines_at, lines_before, good_at, line_plain, plain_at, lines_plain, lines_good}
use Rattle.sound.specs.rule.Sound.{values_good}
use Rattle.sound.specs.rule.Sound.{mark_known, rows_good, well_formed}
use Rattle.sound.specs.rule.Rows.{rows_of}
use Rattle.sound.specs.Given.{ColumnFacts, column_facts}
use Rattle.uses.specs.Uses.{UseFew}
use Rattle.uses.proofs.Uses.{use_few}
use Rattle.sound.specs.Rows.{FitAs, good_fits, line_value_lem, parts, row_facts, length_low}
use Rattle.table_laws.specs.rule.Signs.{NotNegative, HeaderSigns, RowSigns, LineSigns, TableSigns}

-- ---- what is within a limit is not negative
count_sign : (z : ℤ) → count_of z ≤ 9223372036854775807 → NotNegative z
unfolding count_of
count_sign (pos n) h = le-leb 0 n (omega arith)
count_sign (negsuc n) h = absurd (omega arith)

within : (z : ℤ) (m : ℕ) → m ≤ 1048576 → leb (count_of z) m ≡ true → NotNegative z
within z m h e = let a = leb-true (count_of z) m e in count_sign z (omega arith)

one_sign : (z : ℤ) → le_z (pos 1) z ≡ true → NotNegative z
one_sign (pos n) e = le-leb 0 n (omega arith)
one_sign (negsuc n) e = holds_not e refl

zero_sign : (z : ℤ) → eq_z z (pos 0) ≡ true → NotNegative z
zero_sign z e = rw (same_true z (pos 0) e)

lowest_one : (c : Columns) → (c.kind ≡ 3 → ⊥) → lowest (kind_of c) ≡ pos 1
unfolding lowest
lowest_one c n =
    kind_cases c (λ k. lowest k ≡ pos 1) (λ k. refl) (λ k s. refl) (λ k s. refl) (λ k. absurd (n k)) (λ k. refl) refl

fits_sign : (c : Columns) → (c.kind ≡ 3 → ⊥) → (z : ℤ) → fits_kind (kind_of c) z ≡ true → NotNegative z
fits_sign c n z e =
    one_sign z (rw (lowest_one c n) at (and_left (le_z (lowest (kind_of c)) z) (le_z z (highest (kind_of c))) e))

-- the width of a row of each kind
width_few : (k : Kind) (r : Row) → KindFacts k r → r.width ≤ 9999
width_few Single r f = let a = f.few in omega arith
width_few (Multiple Bits) r f = f.few
width_few (Multiple (Fields n b)) r f = let a = f.few in omega arith
width_few (Quantity g) r f = let a = f.width.few in omega arith
width_few Character r f = let a = f.few in omega arith
width_few Logical r f = let a = f.few in omega arith

kind_fields : (c : Columns) → c.kind ≡ 2 → (c.subfields ≡ 0 → ⊥) → kind_of c ≡ Multiple (Fields c.subfields c.subwidth)
unfolding kind_of spread_of
kind_fields c e n = rw (e, ne_eqb c.subfields 0 n)

module _ (t : List ℤ) (g : well_formed t ≡ true) where
  row_good_lem : (i : ℕ) → i < rows_of t → row_good t (rows_of t) (header_of t).lines (lines_before t i) (columns_of t i) ≡ true
  unfolding rows_good
  row_good_lem i l = all_at_lem (good_at t (rows_of t) (header_of t).lines) (rows_of t) i l (and_both (and_both (parts t g).rows).0).0

  -- ---- the header
  pub header_signs : HeaderSigns t
  unfolding well_formed header_of
  header_signs =
      let a = and_both (and_both (and_both (and_both g).0).0).0 in
      let h = header_of t in
      let counts = mark_known h && leb 1 h.rows && leb h.rows 512 in
      let c1 = and_left counts (leb h.lines 4096) a.0 in
      let c2 = and_left (mark_known h && leb 1 h.rows) (leb h.rows 512) c1 in
      let c3 = and_left (mark_known h) (leb 1 h.rows) c2 in
      let r6 = eqb h.rows_at 6 in
      let l6 = eqb h.lines_at (lines_base h.rows) in
      let s1 = and_left (r6 && l6) (leb (line_base h.rows h.lines) (length t)) a.1 in
      let e0 : h.mark ≤ 12 =
      ⊎_elim (λ x. omega (arith, eqb-true h.mark 11 x)) (λ x. omega (arith, eqb-true h.mark 12 x))
      (either_true (eqb h.mark 11) (eqb h.mark 12) c3) in
      let e1 = leb-true h.rows 512 (and_right (mark_known h && leb 1 h.rows) (leb h.rows 512) c1) in
      let e2 = leb-true h.lines 4096 (and_right counts (leb h.lines 4096) a.0) in
      let e4 = eqb-true h.rows_at 6 (and_left r6 l6 s1) in
      let e5 = eqb-true h.lines_at (lines_base h.rows) (and_right r6 l6 s1) in
      record {
        mark = count_sign (cell t 0) (omega arith);
        rows = count_sign (cell t 1) (omega arith);
        lines = count_sign (cell t 2) (omega arith);
        least_length = count_sign (cell t 3) (omega (arith, length_low t g));
        rows_at = count_sign (cell t 4) (omega arith);
        lines_at = count_sign (cell t 5) (omega arith);
      }

  -- ---- a row
  module _ (i : ℕ) (l : i < rows_of t) where
    c : Columns
    c = columns_of t i

    good : columns_good (header_of t).lines (lines_before t i) c ≡ true
    unfolding row_good c
    good = (and_both (row_good_lem i l)).0

    facts : ColumnFacts (header_of t).lines (lines_before t i) c
    unfolding c
    facts = column_facts (header_of t).lines (lines_before t i) (columns_of t i) good

    places : places_good c ≡ true
    unfolding columns_good c
    places = (and_both (and_both (and_both (and_both good).0).0).0).1

    lacked : range_lacked c ≡ true
    unfolding columns_good c
    lacked = (and_both (and_both (and_both good).0).0).1

    idents : ident_good c ≡ true
    unfolding places_good c
    idents = (and_both (and_both (and_both places).0).0).0

    texts : texts_good c ≡ true
    unfolding places_good c
    texts = (and_both places).1

    values : values_good t (rows_of t) (row_at t i) ≡ true
    unfolding row_good
    values = (and_both (and_both (row_good_lem i l)).1).0

    fit : FitAs t (rows_of t) (row_at t i) (row_at t i).kind
    fit = good_fits t (rows_of t) (row_at t i) values

    few_lines : (header_of t).lines ≤ 4096
    few_lines = omega (arith, (parts t g).standing.few_lines)

    ident_few : c.ident ≤ 9999
    unfolding c
    ident_few = leb-true c.ident 9999 (and_right (leb 1 c.ident) (leb c.ident 9999) idents)

    width_small : c.width ≤ 9999
    unfolding c row_of
    width_small = width_few (row_at t i).kind (row_at t i) (row_facts t g i l).kind

    -- use and filter
    uses : UseFew i c
    unfolding c
    uses = use_few t (header_of t) (parts t g).kind i l

    -- a text's place and length
    text_few : (c.name ≤ 1048576) × (c.name_len ≤ 1048576) × (c.label ≤ 1048576) × (c.label_len ≤ 1048576)
    unfolding c
    text_few =
        let n = leb c.name 1048576 in
        let m = leb c.name_len 1048576 in
        let k = leb c.label 1048576 in
        let j = leb c.label_len 1048576 in
        let a = and_left (n && m && k) j texts in
        let b = and_left (n && m) k a in (
          leb-true c.name 1048576 (and_left n m b),
          leb-true c.name_len 1048576 (and_right n m b),
          leb-true c.label 1048576 (and_right (n && m) k a),
          leb-true c.label_len 1048576 (and_right (n && m && k) j texts),
        )

    -- only a multiple has subfields, and a position holds them
    no_subfields : (c.kind ≡ 2 → ⊥) → (c.subfields ≡ 0) × (c.subwidth ≡ 0)
    unfolding columns_good counts_good c
    no_subfields n =
        let a = (and_both (and_both (and_both (and_both good).0).0).0).0 in
        let z = (and_both (and_both (and_both (and_both a).0).0).0).1 in
        let x = eqb c.kind 3 || (eqb c.decimals 0 && eqb c.point 0) in
        let y = eqb c.kind 2 || (eqb c.subfields 0 && eqb c.subwidth 0) in
        let u = and_right x y (and_left (x && y) (leb c.kind 3 || (eqb c.range 0 && eqb c.lines 0)) z) in
        ⊎_elim (λ e. absurd (n (eqb-true c.kind 2 e)))
        (λ e. (
          eqb-true c.subfields 0 (and_left (eqb c.subfields 0) (eqb c.subwidth 0) e),
          eqb-true c.subwidth 0 (and_right (eqb c.subfields 0) (eqb c.subwidth 0) e),
        ))
        (either_true (eqb c.kind 2) (eqb c.subfields 0 && eqb c.subwidth 0) u)

    some_subfields : c.kind ≡ 2 → (c.subfields ≡ 0 → ⊥) → (c.subfields ≤ 16384) × (c.subwidth ≤ 16384)
    unfolding c row_of
    some_subfields e n =
        let f : SpreadFacts c.subfields c.subwidth (row_at t i) =
        subst (λ (k : Kind). KindFacts k (row_at t i)) (kind_fields c e n) (row_facts t g i l).kind in
        let low = facts.low in
        let one = facts.from_one in
        let p = c.subfields * c.subwidth in
        let a : c.subfields ≤ p = le-mul_of_pos_right c.subfields (omega (arith, f.some, f.holds)) in
        let b : c.subwidth ≤ p = rw (mul_comm c.subfields c.subwidth) (le-mul_of_pos_right c.subwidth f.subfields) in
        (omega (arith, f.room), omega (arith, f.room))

    subfields_few : (c.subfields ≤ 16384) × (c.subwidth ≤ 16384)
    unfolding c
    subfields_few = go (eqb c.kind 2) (eqb c.subfields 0) refl refl
      where
        paired : c.subfields ≡ 0 → c.subwidth ≡ 0
        paired e = go' (eqb c.subwidth 0) refl (rw (eq-eqb c.subfields 0 e) at facts.subfields)
          where
            go' : (b : Bool) → eqb c.subwidth 0 ≡ b → beq true b ≡ true → c.subwidth ≡ 0
            go' true q h = eqb-true c.subwidth 0 q
            go' false q h = holds_not h refl

        go : (a b : Bool) → eqb c.kind 2 ≡ a → eqb c.subfields 0 ≡ b → (c.subfields ≤ 16384) × (c.subwidth ≤ 16384)
        go false b p q = let z = no_subfields (eqb-false c.kind 2 p) in (omega (arith, z.0), omega (arith, z.1))
        go true true p q = let s = eqb-true c.subfields 0 q in (omega arith, omega (arith, paired s))
        go true false p q = some_subfields (eqb-true c.kind 2 p) (eqb-false c.subfields 0 q)

    -- the ends of a range are legal numbers, and 0 without one
    ends : (c.kind ≡ 3 → ⊥) → NotNegative c.from × NotNegative c.to
    unfolding c row_of
    ends n =
        ⊎_elim
        (λ e. (fits_sign c n c.from (fit.from_fits e), fits_sign c n c.to (fit.to_fits e)))
        (λ e. (
          zero_sign c.from (and_left (eq_z c.from (pos 0)) (eq_z c.to (pos 0)) e),
          zero_sign c.to (and_right (eq_z c.from (pos 0)) (eq_z c.to (pos 0)) e),
        ))
        (either_true (eqb c.range 1) (eq_z c.from (pos 0) && eq_z c.to (pos 0)) lacked)

    pub row_signs : RowSigns t (row_base i)
    unfolding columns_at c
    row_signs =
        let f = facts in
        let at = row_base i in
        let lines_few : c.lines ≤ 4096 = omega (arith, f.lines_within, few_lines) in
        let before_few : c.before ≤ 4096 = omega (arith, f.lines_within, f.lines_before_lem, few_lines) in
        record {
          ident = count_sign (cell t (at + 0)) (omega (arith, ident_few));
          kind = count_sign (cell t (at + 1)) (omega (arith, f.type_high));
          start = count_sign (cell t (at + 2)) (omega (arith, f.ordered, f.low));
          finish = count_sign (cell t (at + 3)) (omega (arith, f.low));
          width = count_sign (cell t (at + 4)) (omega (arith, width_small));
          decimals = count_sign (cell t (at + 5)) (omega (arith, f.decimals));
          point = count_sign (cell t (at + 6)) (omega (arith, f.point));
          subfields = count_sign (cell t (at + 7)) (omega (arith, subfields_few.0));
          subwidth = count_sign (cell t (at + 8)) (omega (arith, subfields_few.1));
          range = count_sign (cell t (at + 9)) (omega (arith, f.range));
          from = λ n. (ends n).0;
          to = λ n. (ends n).1;
          before = count_sign (cell t (at + 12)) (omega (arith, before_few));
          lines = count_sign (cell t (at + 13)) (omega (arith, lines_few));
          name = count_sign (cell t (at + 14)) (omega (arith, text_few.0));
          name_length = count_sign (cell t (at + 15)) (omega (arith, text_few.1));
          label = count_sign (cell t (at + 16)) (omega (arith, text_few.2));
          label_length = count_sign (cell t (at + 17)) (omega (arith, text_few.3));
          use_code = count_sign (cell t (at + 18)) (omega (arith, uses.known));
          filter = count_sign (cell t (at + 19)) (omega (arith, uses.earlier, l, (parts t g).standing.few_rows));
        }

    -- ---- line k of the row
    own_plain : (k : ℕ) → k < lines_at t i → line_plain (line_at t (line_base (rows_of t) (lines_before t i + k))) ≡ true
    unfolding values_good lines_good lines_plain row_of c
    own_plain k h =
        let p = all_at_lem (plain_at t (rows_of t) c.before) c.lines k h (and_both (and_both (and_both values).1).0).0 in
        rw facts.lines_before_lem at p

    own_value : (k : ℕ) → k < lines_at t i → (c.kind ≡ 3 → ⊥) → NotNegative (cell t (line_base (rows_of t) (lines_before t i + k)))
    unfolding row_of c
    own_value k h n =
        let v = fit.line_fits k h in
        let q = fits_sign c n (line_value t (rows_of t) (row_at t i) k) (rw (line_value_lem t (rows_of t) (row_at t i) k) v) in
        rw facts.lines_before_lem at q

  -- ---- every line is one row's
  sum_place : (f : ℕ → ℕ) (v j : ℕ) → j < sum_below v f → {A : Type 0}
      → ((i : ℕ) → i < v → sum_below i f ≤ j → j < sum_below i f + f i → A) → A
  unfolding sum_below
  sum_place f zero j h k = absurd (omega arith)
  sum_place f (suc v) j h k =
      ⊎_elim (λ l. sum_place f v j l (λ i a b d. k i (omega arith) b d)) (λ l. k v (omega arith) l h) (lt_or_le j (sum_below v f))

  lines_all : lines_before t (rows_of t) ≡ (header_of t).lines
  unfolding rows_good
  lines_all = eqb-true (lines_before t (rows_of t)) (header_of t).lines (and_both (and_both (parts t g).rows).0).1

  pub line_signs : (j : ℕ) → j < (header_of t).lines → LineSigns t j
  unfolding line_at c
  line_signs j h = sum_place (lines_at t) (rows_of t) j (rw lines_all h) by
    where
      by : (i : ℕ) → i < rows_of t → lines_before t i ≤ j → j < lines_before t i + lines_at t i → LineSigns t j
      by i l a b =
          let k = j - lines_before t i in
          let e : lines_before t i + k ≡ j = omega arith in
          let in_row : k < lines_at t i = omega arith in
          let p : line_plain (line_at t (line_base (rows_of t) j)) ≡ true = rw e at (own_plain i l k in_row) in
          let at = line_base (rows_of t) j in
          let s1 = leb (count_of (cell t (at + 1))) 1 in
          let s2 = leb (count_of (cell t (at + 2))) 1048576 in
          let s3 = leb (count_of (cell t (at + 3))) 1048576 in
          let q = and_left (s1 && s2) s3 p in
          record {
            row = i;
            of_row = record { row = l; from = a; to = b };
            value = λ n. rw e at (own_value i l k in_row n);
            special = within (cell t (at + 1)) 1 (omega arith) (and_left s1 s2 q);
            text = within (cell t (at + 2)) 1048576 (omega arith) (and_right s1 s2 q);
            text_length = within (cell t (at + 3)) 1048576 (omega arith) (and_right (s1 && s2) s3 p);
          }

pub formed_not_negative : (t : List ℤ) → well_formed t ≡ true → TableSigns t
formed_not_negative t g = record { header = header_signs t g; row = row_signs t g; line = line_signs t g }
