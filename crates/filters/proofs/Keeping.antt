-- The variables of a definition keep the rule of uses and filters: it holds of none, and of one more that joins them. The table of
-- variables
-- that keep it has good uses (crate `uses`).
use mathlib.Core.Path.{◌≡◌, refl, sym, ap, ◌∙◌}
use mathlib.Core.Logic.{⊎_elim}
use mathlib.Core.Bool.{Bool, true, false, cond, not, ◌&&◌, ◌||◌}
use mathlib.Core.List.{List, [], ◌∷◌, ◌++◌}
use Prim.Native.Nat.{ℕ, zero, suc, ◌+◌, ◌-◌, ◌*◌, ◌≤◌, ◌<◌}
use native.Mathlib.Omega.{arith}
use lib.Dec.{eqb, leb}
use lib.IntN.{ℤ, pos}
use lib.ListN.{length, get_or-append, length-append}
use lib.Seq.{get_or-append-add}
use borrow.Author.Tests.{eq-eqb, ne_eqb, eqb-true, le-leb}
use Rattle.below.specs.rule.Below.{sum_below}
use Rattle.below.specs.Below.{and_true, both_and, all_of}
use Rattle.cells.specs.rule.Cell.{cell, count_of}
use Rattle.layout.specs.rule.Layout.{row_size, row_base, columns_at}
use Rattle.layout.specs.declared.Header.{Header}
use Rattle.rows.specs.rule.Cells.{row_cells, header_cells}
use Rattle.uses.specs.rule.Uses.{use_known, serial_typed, weight_typed, unfiltered, own_use, filter_good, use_good, is_use, uses_of}
use Rattle.uses.specs.rule.Uses.{uses_good}
use Rattle.survey.specs.rule.Table.{variable_columns, lines_of, all_lines}
use Rattle.xml_reading.specs.rule.Role.{XmlEntry, variables_of}
use Rattle.xml_reading.specs.rule.Whole.{columns_for, xml_header, xml_rows, xml_table}
use Rattle.filters.specs.rule.Kept.{At, here, there, entry_kind, Joins, Before, RowKept, Kept}
use Rattle.filters.proofs.Rooms.{at_below, row_long, row_in, next_row}

never : {A : Type 0} → ◌≡◌ {A = ℕ} 0 1 → A
never z = absurd (omega arith)

-- ---- one row more
pub at_none : {l : List XmlEntry} {i : ℕ} {v : XmlEntry} → At l i v → l ≡ [] → ⊥
at_none here e = never cc
at_none (there a) e = never cc

at_more : {l : List XmlEntry} {i : ℕ} {v : XmlEntry} (w : XmlEntry) → At l i v → At (l ++ w ∷ []) i v
at_more w here = here
at_more w (there a) = there (at_more w a)

pub data Split (l : List XmlEntry) (w : XmlEntry) : ℕ → XmlEntry → Type 0 where
  old : {i : ℕ} {v : XmlEntry} → At l i v → Split l w i v
  new : {i : ℕ} → i ≡ length l → Split l w i w

up : {x : XmlEntry} {l : List XmlEntry} {w : XmlEntry} {i : ℕ} {v : XmlEntry} → Split l w i v → Split (x ∷ l) w (suc i) v
up (old a) = old (there a)
up (new e) = new (ap suc e)

pub at_split : (l : List XmlEntry) (w : XmlEntry) {i : ℕ} {v : XmlEntry} → At (l ++ w ∷ []) i v → Split l w i v
at_split [] w here = new refl
at_split [] w (there a) = absurd (at_none a refl)
at_split (x ∷ l) w here = old here
at_split (x ∷ l) w (there a) = up (at_split l w a)

pub kept_none : Kept []
kept_none = record { rows = λ i v a. absurd (at_none a refl); one = λ i j v w a b h e. absurd (at_none a refl) }

module _ (latin standard : Bool) (d : List ℕ) (l : List XmlEntry) (w : XmlEntry) (k : Kept l) (j : Joins latin standard d l w) where
  before_more : (i f : ℕ) → Before l i f → Before (l ++ w ∷ []) i f
  before_more i f b = record { row = b.row; at = at_more w b.at; earlier = b.earlier; logical = b.logical }

  old_row : (i : ℕ) (v : XmlEntry) → RowKept l i v → RowKept (l ++ w ∷ []) i v
  old_row i v r = record {
    known = r.known;
    serial = r.serial;
    weight = r.weight;
    use_unfiltered = r.use_unfiltered;
    filter = λ f e. before_more i f (r.filter f e);
  }

  unfiltered_new : (n : ℕ) → w.filter ≡ n → 0 < w.usage → n ≡ 0
  unfiltered_new zero e h = refl
  unfiltered_new (suc f) e h = let x = (j.filter f e).filters.unused in absurd (omega arith)

  new_row : (i : ℕ) → i ≡ length l → RowKept (l ++ w ∷ []) i w
  new_row i e = record {
    known = j.known;
    serial = j.serial;
    weight = j.weight;
    use_unfiltered = λ h. unfiltered_new w.filter refl h;
    filter = λ f g.
        let x = (j.filter f g).filters in
        let b = at_below x.before in
        record { row = x.row; at = at_more w x.before; earlier = omega arith; logical = x.logical };
  }

  each_row : (i : ℕ) (v : XmlEntry) → Split l w i v → RowKept (l ++ w ∷ []) i v
  each_row i v (old a) = old_row i v (k.rows i v a)
  each_row i v (new e) = new_row i e

  one_use : (i m : ℕ) (x y : XmlEntry) → Split l w i x → Split l w m y → 0 < x.usage → y.usage ≡ x.usage → i ≡ m
  one_use i m x y (old a) (old b) h e = k.one i m x y a b h e
  one_use i m x y (old a) (new f) h e = absurd (j.first (omega arith) i x a (sym e))
  one_use i m x y (new f) (old b) h e = absurd (j.first h m y b e)
  one_use i m x y (new f) (new g) h e = omega arith

  -- KEPT, of one more
  pub kept_more : Kept (l ++ w ∷ [])
  kept_more = record {
    rows = λ i v a. each_row i v (at_split l w a);
    one = λ i m x y a b h e. one_use i m x y (at_split l w a) (at_split l w b) h e;
  }

-- ---- a table that shows the variables l
pub record Shown (t : List ℤ) (i : ℕ) (v : XmlEntry) : Type 0 where
  pub kind : (columns_at t (row_base i)).kind ≡ entry_kind v
  pub usage : (columns_at t (row_base i)).usage ≡ v.usage
  pub filter : (columns_at t (row_base i)).filter ≡ v.filter

-- at most one of them is 1, where each is at most 1
module _ (g : ℕ → ℕ) where
  sum_zero : (n : ℕ) → ((i : ℕ) → i < n → g i ≡ 0) → sum_below n g ≡ 0
  unfolding sum_below
  sum_zero zero h = refl
  sum_zero (suc n) h = let a = sum_zero n (λ i k. h i (omega arith)) in let b = h n (omega arith) in omega arith

  sum_one : (n : ℕ) → ((i : ℕ) → i < n → g i ≤ 1) → ((i j : ℕ) → i < n → j < n → 0 < g i → 0 < g j → i ≡ j) → sum_below n g ≤ 1
  unfolding sum_below
  sum_one zero b h = omega arith
  sum_one (suc n) b h = by (g n) refl (sum_one n (λ i k. b i (omega arith)) (λ i j k m. h i j (omega arith) (omega arith))) where
    none : (i x : ℕ) → i < n → 0 < g n → g i ≡ x → x ≡ 0
    none i zero k m e = refl
    none i (suc x) k m e = let z = h i n (omega arith) (omega arith) (omega arith) m in absurd (omega arith)

    by : (x : ℕ) → g n ≡ x → sum_below n g ≤ 1 → sum_below n g + g n ≤ 1
    by zero e ih = omega arith
    by (suc x) e ih =
        let z = sum_zero n (λ i k. none i (g i) k (omega arith) refl) in
        let y = b n (omega arith) in
        omega arith

module _ (t : List ℤ) (l : List XmlEntry) (k : Kept l) (shown : (i : ℕ) (v : XmlEntry) → At l i v → Shown t i v) where
  own_good : (i : ℕ) (v : XmlEntry) → At l i v → own_use (columns_at t (row_base i)) ≡ true
  own_good i v a = and_true _ _ (and_true _ _ (and_true _ _ known serial) weight) unused where
    r : RowKept l i v
    r = k.rows i v a

    s : Shown t i v
    s = shown i v a

    known : use_known (columns_at t (row_base i)) ≡ true
    known = rw s.usage (le-leb v.usage 2 r.known)

    serial : serial_typed (columns_at t (row_base i)) ≡ true
    serial = rw (s.usage, s.kind) (by (eqb v.usage 1) refl) where
      by : (q : Bool) → eqb v.usage 1 ≡ q → (not q || (leb 3 (entry_kind v) && leb (entry_kind v) 4)) ≡ true
      by true e = ⊎_elim (λ z. rw z) (λ z. rw z) (r.serial (eqb-true v.usage 1 e))
      by false e = refl

    weight : weight_typed (columns_at t (row_base i)) ≡ true
    weight = rw (s.usage, s.kind) (by (eqb v.usage 2) refl) where
      by : (q : Bool) → eqb v.usage 2 ≡ q → (not q || eqb (entry_kind v) 3) ≡ true
      by true e = eq-eqb (entry_kind v) 3 (r.weight (eqb-true v.usage 2 e))
      by false e = refl

    unused : unfiltered (columns_at t (row_base i)) ≡ true
    unused = rw (s.usage, s.filter) (by v.usage refl) where
      by : (n : ℕ) → v.usage ≡ n → (eqb n 0 || eqb v.filter 0) ≡ true
      by zero e = refl
      by (suc n) e = rw (ne_eqb (suc n) 0 (λ z. omega arith)) (eq-eqb v.filter 0 (r.use_unfiltered (omega arith)))

  filter_good_lem : (i : ℕ) (v : XmlEntry) → At l i v → filter_good t i (columns_at t (row_base i)) ≡ true
  unfolding filter_good
  filter_good_lem i v a = rw (shown i v a).filter (by v.filter refl) where
    by : (n : ℕ) → v.filter ≡ n → (eqb n 0 || (leb n i && eqb (columns_at t (row_base (n - 1))).kind 5)) ≡ true
    by zero e = refl
    by (suc f) e =
        let b = (k.rows i v a).filter f e in
        let h = b.earlier in
        let z : suc f - 1 ≡ f = omega arith in
        rw (ne_eqb (suc f) 0 (λ z. omega arith), z, (shown f b.row b.at).kind)
        (and_true _ _ (le-leb (suc f) i h) (eq-eqb (entry_kind b.row) 5 b.logical))

  row_good_lem : (i : ℕ) → i < length l → use_good t i (columns_at t (row_base i)) ≡ true
  unfolding use_good
  row_good_lem i h = let n = next_row l i h in and_true _ _ (own_good i n.row n.at) (filter_good_lem i n.row n.at)

  once : (u : ℕ) → 0 < u → leb (uses_of t (length l) u) 1 ≡ true
  unfolding is_use
  once u h = le-leb _ 1 (sum_one (λ i. is_use (columns_at t (row_base i)).usage u) (length l)
      (λ i g. small (eqb (columns_at t (row_base i)).usage u)) same) where
        small : (q : Bool) → cond q 1 0 ≤ 1
        small true = omega arith
        small false = omega arith

        is : (x : ℕ) (q : Bool) → eqb x u ≡ q → 0 < cond q 1 0 → x ≡ u
        is x true e g = eqb-true x u e
        is x false e g = absurd (omega arith)

        same : (i m : ℕ) → i < length l → m < length l → 0 < is_use (columns_at t (row_base i)).usage u → 0
            < is_use (columns_at t (row_base m)).usage u → i ≡ m
        same i m a b p q =
            let x = next_row l i a in
            let y = next_row l m b in
            let e = is (columns_at t (row_base i)).usage _ refl p in
            let f = is (columns_at t (row_base m)).usage _ refl q in
            let g = (shown i x.row x.at).usage in
            let o = (shown m y.row y.at).usage in
            k.one i m x.row y.row x.at y.at (omega arith) (omega arith)

  -- the uses of the table are good
  pub shown_good : uses_good t (length l) ≡ true
  unfolding uses_good
  shown_good = both_and (all_of _ (length l) row_good_lem) (and_true _ _ (once 1 (omega arith)) (once 2 (omega arith)))

-- ---- the table of the variables
header_long : (h : Header) → length (header_cells h) ≡ 6
unfolding header_cells
header_long h = refl

rows_long : (b : ℕ) (l : List XmlEntry) → length (xml_rows b l) ≡ row_size * length l
unfolding xml_rows
rows_long b [] = refl
rows_long b (v ∷ l) =
    let n = b + length (lines_of v.variable) in
    length-append (row_cells (columns_for b v)) (xml_rows n l)
    ∙ (let e = row_long (columns_for b v) in let f = rows_long n l in omega arith)

pub table_row : (l : List XmlEntry) (i k : ℕ) → i < length l → k < row_size → cell (xml_table l) (row_base i + k)
    ≡ cell (xml_rows 0 l) (row_size * i + k)
unfolding xml_table
table_row l i k h g =
    let e : row_base i + k ≡ length (header_cells (xml_header l)) + (row_size * i + k) = omega (arith, header_long (xml_header l)) in
    let r = rows_long 0 l in
    let m : row_base i + k < length (header_cells (xml_header l) ++ xml_rows 0 l) =
    omega (arith, length-append (header_cells (xml_header l)) (xml_rows 0 l), header_long (xml_header l)) in
    get_or-append (header_cells (xml_header l) ++ xml_rows 0 l) (all_lines (variables_of l)) (pos 0) (row_base i + k) m
    ∙ ap (λ (n : ℕ). cell (header_cells (xml_header l) ++ xml_rows 0 l) n) e
    ∙ get_or-append-add (header_cells (xml_header l)) (xml_rows 0 l) (row_size * i + k) (pos 0)

pub table_shown : (l : List XmlEntry) (i : ℕ) (v : XmlEntry) → At l i v → Shown (xml_table l) i v
unfolding columns_at row_cells columns_for variable_columns count_of
table_shown l i v a =
    let r = row_in 0 a in
    let h = at_below a in
    record {
      kind = ap count_of (table_row l i 1 h (omega arith) ∙ r.is 1 (omega arith));
      usage = ap count_of (table_row l i 18 h (omega arith) ∙ r.is 18 (omega arith));
      filter = ap count_of (table_row l i 19 h (omega arith) ∙ r.is 19 (omega arith));
    }

-- ONE-SERIAL, ONE-WEIGHT, USE-UNFILTERED and filters, as the test of a table of mark 12 asks them
pub uses_good_lem : (l : List XmlEntry) → Kept l → uses_good (xml_table l) (length l) ≡ true
uses_good_lem l k = shown_good (xml_table l) l k (table_shown l)
