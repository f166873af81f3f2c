-- THE TABLE BUILT OF AN XML DEFINITION IS WELL FORMED: it is the table of the same variables in the books (crate `built`) but for its mark
-- and
-- for use and filter, of which it says what `kind_good` asks for.
use Rattle.std.specs.Prelude.{◌≡◌, Bool, not, ◌&&◌, ◌||◌, ltb, leb, ℤ}
use Rattle.std.proofs.Math.Path.{refl, sym, ap, fun_ext}
use Rattle.std.proofs.Common.{◌∙◌, ⊎_elim, eq-or-lt_of_le, get_or-append-add}
use Rattle.std.proofs.Math.Bool.{true, false, cond}
use mathlib.Core.List.{List, [], ◌∷◌, ◌++◌, append_assoc, append-nil}
use Prim.Native.Nat.{ℕ, zero, suc, ◌+◌, ◌-◌, ◌*◌, ◌≤◌, ◌<◌, max}
use native.Mathlib.Omega.{arith}
use Rattle.std.proofs.Math.Dec.{eqb}
use Rattle.std.proofs.Math.IntN.{pos}
use Rattle.std.proofs.Math.ListN.{length, drop, length-append, get_or-append}
use borrow.Author.Tests.{eqb-true, eq-eqb, le-leb, lt-ltb, not-true}
use Rattle.below.specs.rule.Below.{◌and◌, all_below, sum_below, max_below}
use Rattle.below.specs.Below.{both_and, all_of, and_true, and_left, and_right, sum_none, sum_more, or_true, either_true}
use Rattle.cells.specs.rule.Cell.{cell, count_of, pasted}
use Rattle.strides.specs.rule.Stride.{stride_at, all_differ}
use Rattle.layout.specs.rule.Layout.{most_rows, most_lines, header_size, row_size, line_size, row_base, lines_base, line_base}
use Rattle.layout.specs.rule.Layout.{header_of, columns_at, line_at}
use Rattle.layout.specs.rule.Row.{kind_of, row_of}
use Rattle.layout.specs.declared.Columns.{Columns}
use Rattle.layout.specs.declared.Row.{Row}
use Rattle.rows.specs.rule.Cells.{row_cells, header_cells}
use Rattle.widths.specs.rule.Width.{need}
use Rattle.sound.specs.rule.Sound.{counts_good, places_good, value_at, plain_at, line_plain, lines_plain, values_fit, widest, lines_good}
use Rattle.sound.specs.rule.Sound.{values_good}
use Rattle.sound.specs.rule.Sound.{widths_good, columns_good, row_good, lines_at, finish_at, lines_before, highest_finish, good_at}
use Rattle.sound.specs.rule.Sound.{idents_differ}
use Rattle.sound.specs.rule.Sound.{head_counts, head_sums, rows_good, well_formed}
use Rattle.sound.specs.rule.Sound as sound
use Rattle.uses.specs.rule.Uses.{own_use, filter_good, use_good, is_use, uses_good, specials_none, xml_good}
use Rattle.uses.specs.rule.Uses.{kind_good}
use Rattle.measures.specs.Survey as book
use Rattle.measures.specs.Good.{Good, GoodVariable}
use Rattle.measures.specs.Good as good
use Rattle.measures.proofs.Snoc.{table_length, rows_length}
use Rattle.values.proofs.Facts.{or_none, or_neither}
use Rattle.values.proofs.Rooms.{length_pasted}
use Rattle.built.specs.Same.{max_same, differ_same}
use Rattle.built.specs.Standing.{Stands, inside, cell_there, columns_there}
use Rattle.built.specs.Nth.{Nth, few_rows, few_lines, sum_all, highest_all}
use Rattle.built.specs.Cells.{laid, columns_of_lem, ident_of}
use Rattle.built.specs.Rows.{lines_here, finish_here, row_good_lem, idents_differ_lem}
use Rattle.survey.specs.rule.Survey.{Line, Variable}
use Rattle.survey.specs.rule.Width.{some_of, each_of}
use Rattle.survey.specs.rule.Table.{type_of, variable_columns, lines_of, lines_all, highest_in, line_cells, cells_of, all_lines}
use Rattle.xml_reading.specs.rule.Role.{XmlEntry, variables_of, may_serve, use_wrong}
use Rattle.xml_reading.specs.rule.Whole.{used_by, columns_for, xml_header, xml_rows, xml_table}
use Rattle.xml_bridge.specs.Book.{book_of, columns_same}
use Rattle.xml_bridge.specs.Good.{books_of, books_count, books_lines, books_highest, books_met, books_cells}

none_of : {A : Type 0} → ◌≡◌ {A = ℕ} 0 1 → A
none_of e = absurd (omega arith)

-- ---- what is known of an entry behind others
-- "row number plus one of an earlier logical, 0 none"; a serial or weight has none
pub data Filters (l : List XmlEntry) (v : XmlEntry) : Type 0 where
  unfiltered : v.filter ≡ 0 → Filters l v
  filtered : (p s : List XmlEntry) (w : XmlEntry) → v.usage ≡ 0 → l ≡ p ++ w ∷ s → v.filter ≡ length p + 1
      → type_of w.variable.content ≡ 5 → Filters l v

pub record FineEntry (l : List XmlEntry) (v : XmlEntry) : Type 0 where
  pub good : GoodVariable (lines_all (variables_of l)) (book_of v.variable)
  pub fresh : some_of (λ w. eqb w.ident.value v.variable.ident.value) (variables_of l) ≡ false
  pub left : length l < most_rows
  pub known : v.usage ≤ 2
  pub right : use_wrong l v.usage (type_of v.variable.content) ≡ false
  pub filters : Filters l v
  pub plain : each_of (λ s. not s.special) (lines_of v.variable) ≡ true

pub data FineEntries : List XmlEntry → Type 0 where
  nothing : FineEntries []
  more : {l : List XmlEntry} {v : XmlEntry} → FineEntries l → FineEntry l v → FineEntries (l ++ v ∷ [])

abbrev pub books_for : List XmlEntry → List book.Variable
books_for l = books_of (variables_of l)

variables_join : (p q : List XmlEntry) → variables_of (p ++ q) ≡ variables_of p ++ variables_of q
variables_join [] q = refl
variables_join (v ∷ p) q = rw (variables_join p q)

books_join : (p q : List Variable) → books_of (p ++ q) ≡ books_of p ++ books_of q
books_join [] q = refl
books_join (v ∷ p) q = rw (books_join p q)

entries_join : (p q : List XmlEntry) → books_for (p ++ q) ≡ books_for p ++ books_for q
entries_join p q = rw (variables_join p q) (books_join (variables_of p) (variables_of q))

pub entries_count : (l : List XmlEntry) → length (variables_of l) ≡ length l
entries_count [] = refl
entries_count (v ∷ l) = rw (entries_count l)

pub count_for : (l : List XmlEntry) → length (books_for l) ≡ length l
count_for l = books_count (variables_of l) ∙ entries_count l

pub books_good : {l : List XmlEntry} → FineEntries l → Good (books_for l)
books_good nothing = good.none
books_good (more {l} {v} g f) =
    rw (entries_join l (v ∷ []))
    (good.more {v = book_of v.variable} (books_good g) (rw (books_lines (variables_of l)) f.good)
    (books_met (variables_of l) v.variable.ident.value ∙ f.fresh)
    (rw (count_for l) f.left))

alone : {l : List XmlEntry} {v : XmlEntry} → Filters l v → (eqb v.usage 0 || eqb v.filter 0) ≡ true
alone {v = v} (unfiltered e) = ap (λ (n : ℕ). eqb v.usage 0 || eqb n 0) e ∙ or_true (eqb v.usage 0)
alone {v = v} (filtered p s w u e f k) = ap (λ (n : ℕ). eqb n 0 || eqb v.filter 0) u

pub entries_few : {l : List XmlEntry} → FineEntries l → (length l ≤ most_rows) × (lines_all (variables_of l) ≤ most_lines)
entries_few {l} g = (rw (count_for l) at (few_rows (books_good g)), rw (books_lines (variables_of l)) at (few_lines (books_good g)))

-- the same place in one list, parted twice
same_at : (a b m n : List XmlEntry) (x y : XmlEntry) → length a ≡ length b → a ++ x ∷ m ≡ b ++ y ∷ n → x ≡ y
same_at [] [] m n x y h e = cc
same_at [] (b ∷ r) m n x y h e = absurd (omega arith)
same_at (a ∷ s) [] m n x y h e = absurd (omega arith)
same_at (a ∷ s) (b ∷ r) m n x y h e = same_at s r m n x y (omega arith) cc

-- ---- entry i
record Nth' (l : List XmlEntry) (i : ℕ) : Type 0 where
  before : List XmlEntry
  entry : XmlEntry
  behind : List XmlEntry
  is : l ≡ before ++ entry ∷ behind
  here : length before ≡ i
  earlier : FineEntries before
  fine : FineEntry before entry

abbrev further : {p l : List XmlEntry} {i : ℕ} → Nth' p i → (s : List XmlEntry) → l ≡ p ++ s → Nth' l i
further r s e = record {
  before = r.before;
  entry = r.entry;
  behind = r.behind ++ s;
  is = e ∙ ap (λ (m : List XmlEntry). m ++ s) r.is ∙ append_assoc r.before (r.entry ∷ r.behind) s;
  here = r.here;
  earlier = r.earlier;
  fine = r.fine;
}

abbrev last : {l : List XmlEntry} {v : XmlEntry} → FineEntries l → FineEntry l v → Nth' (l ++ v ∷ []) (length l)
last {l} {v} g f = record { before = l; entry = v; behind = []; is = refl; here = refl; earlier = g; fine = f }

nth' : {l : List XmlEntry} → FineEntries l → (i : ℕ) → i < length l → Nth' l i
nth' nothing i h = absurd (omega arith)
nth' (more {l} {v} g f) i h =
    let n : i ≤ length l = omega (arith, length-append l (v ∷ [])) in
    ⊎_elim (λ e. rw e (last g f)) (λ m. further (nth' g i m) (v ∷ []) refl) (eq-or-lt_of_le n)

abbrev book_nth : {l : List XmlEntry} {i : ℕ} → Nth' l i → Nth (books_for l) i
book_nth r = record {
  before = books_for r.before;
  variable = book_of r.entry.variable;
  behind = books_for r.behind;
  is = ap books_for r.is ∙ entries_join r.before (r.entry ∷ r.behind);
  here = count_for r.before ∙ r.here;
  earlier = books_good r.earlier;
  good = rw (books_lines (variables_of r.before)) r.fine.good;
  new = books_met (variables_of r.before) r.entry.variable.ident.value ∙ r.fine.fresh;
}

-- ---- the numbers of the table

rows_join : (b : ℕ) (p q : List XmlEntry) → xml_rows b (p ++ q) ≡ xml_rows b p ++ xml_rows (b + lines_all (variables_of p)) q
unfolding xml_rows lines_all
rows_join b [] q = let e : b + 0 ≡ b = omega arith in rw e
rows_join b (v ∷ p) q =
    let n = length (lines_of v.variable) in
    let e : b + n + lines_all (variables_of p) ≡ b + (n + lines_all (variables_of p)) = omega arith in
    rw (rows_join (b + n) p q, e) (sym (append_assoc (row_cells (columns_for b v)) (xml_rows (b + n) p)
    (xml_rows (b + (n + lines_all (variables_of p))) q)))

row_length : (c : Columns) → length (row_cells c) ≡ 20
unfolding row_cells
row_length c = refl

pub rows_count : (b : ℕ) (l : List XmlEntry) → length (xml_rows b l) ≡ row_size * length l
unfolding xml_rows
rows_count b [] = refl
rows_count b (v ∷ l) =
    length-append (row_cells (columns_for b v)) (xml_rows (b + length (lines_of v.variable)) l)
    ∙ rw (row_length (columns_for b v), rows_count (b + length (lines_of v.variable)) l) (omega arith)

module _ (t : List ℤ) (l : List XmlEntry) where
  abbrev X : List ℤ
  X = pasted t 0 (xml_table l)

  abbrev T : List ℤ
  T = laid t (books_for l)

  pub header_back : header_of X ≡ xml_header l
  unfolding header_of pasted xml_table header_cells count_of xml_header
  header_back = refl

  table_stands : Stands X 0 (xml_table l)
  unfolding pasted
  table_stands = record { front = []; rest = drop (0 + length (xml_table l)) t; is = refl; here = refl }

  row_stands : {i : ℕ} (r : Nth' l i) → Stands X (row_base i) (row_cells (columns_for (lines_all (variables_of r.before)) r.entry))
  unfolding xml_table xml_rows header_cells
  row_stands {i} r =
      let front = header_cells (xml_header l) in
      let b = lines_all (variables_of r.before) in
      let own = row_cells (columns_for b r.entry) in
      let rows : Stands X header_size (xml_rows 0 l) =
      inside table_stands front (xml_rows 0 l) (all_lines (variables_of l)) header_size
      (append_assoc front (xml_rows 0 l) (all_lines (variables_of l))) refl in
      let z : 0 + b ≡ b = omega arith in
      inside rows (xml_rows 0 r.before) own (xml_rows (b + length (lines_of r.entry.variable)) r.behind) (row_base i)
      (ap (xml_rows 0) r.is ∙ rows_join 0 r.before (r.entry ∷ r.behind) ∙ rw z)
      (rw (rows_count 0 r.before, r.here))

  columns_x : {i : ℕ} (r : Nth' l i) → columns_at X (row_base i) ≡ columns_for (lines_all (variables_of r.before)) r.entry
  columns_x r = columns_there (row_stands r)

  columns_both : {i : ℕ} (r : Nth' l i) → columns_at X (row_base i) ≡ used_by r.entry.usage r.entry.filter (columns_at T (row_base i))
  unfolding columns_for
  columns_both {i} r =
      let e : columns_at T (row_base i) ≡ variable_columns (lines_all (variables_of r.before)) r.entry.variable =
      columns_of_lem t (book_nth r)
      ∙ ap (λ (b : ℕ). book.columns_in b (book_of r.entry.variable)) (books_lines (variables_of r.before))
      ∙ columns_same (lines_all (variables_of r.before)) r.entry.variable in
      columns_x r ∙ ap (used_by r.entry.usage r.entry.filter) (sym e)

  -- ---- from the lines on both tables are alike
  length_both : length (book.table_of (books_for l)) ≡ length (xml_table l)
  unfolding xml_table header_cells book.table_of
  length_both =
      rw (
        length-append (book.rows_from 0 (books_for l)) (book.all_lines (books_for l)),
        length-append (xml_rows 0 l) (all_lines (variables_of l)),
      )
      (omega (arith, rows_length 0 (books_for l), rows_count 0 l, count_for l, ap length (books_cells (variables_of l))))

  abbrev rest : List ℤ
  rest = all_lines (variables_of l) ++ drop (0 + length (xml_table l)) t

  apart : (h r m d : List ℤ) → (h ++ r) ++ (m ++ d) ≡ (h ++ (r ++ m)) ++ d
  apart h r m d = simp append_assoc

  rest_x : (k : ℕ) → cell X (lines_base (length l) + k) ≡ cell rest k
  unfolding pasted xml_table header_cells
  rest_x k =
      let a = header_cells (xml_header l) ++ xml_rows 0 l in
      let n : lines_base (length l) ≡ length a = omega (arith, rows_count 0 l) in
      ap (λ (s : List ℤ). cell s (lines_base (length l) + k))
      (sym (apart (header_cells (xml_header l)) (xml_rows 0 l) (all_lines (variables_of l)) (drop (0 + length (xml_table l)) t)))
      ∙ rw n (get_or-append-add a rest k (pos 0))

  rest_t : (k : ℕ) → cell T (lines_base (length l) + k) ≡ cell rest k
  unfolding pasted book.table_of header_cells
  rest_t k =
      let a = header_cells (book.header_for (books_for l)) ++ book.rows_from 0 (books_for l) in
      let own = book.all_lines (books_for l) ++ drop (0 + length (book.table_of (books_for l))) t in
      let n : lines_base (length l) ≡ length a = omega (arith, rows_length 0 (books_for l), count_for l) in
      let e : own ≡ rest =
      ap (λ (m : List ℤ). m ++ drop (0 + length (book.table_of (books_for l))) t) (books_cells (variables_of l))
      ∙ ap (λ (n : ℕ). all_lines (variables_of l) ++ drop (0 + n) t) length_both in
      ap (λ (s : List ℤ). cell s (lines_base (length l) + k))
      (sym (apart (header_cells (book.header_for (books_for l))) (book.rows_from 0 (books_for l)) (book.all_lines (books_for l))
      (drop (0 + length (book.table_of (books_for l))) t)))
      ∙ rw n (get_or-append-add a own k (pos 0) ∙ ap (λ (s : List ℤ). cell s k) e)

  agree : (k : ℕ) → lines_base (length l) ≤ k → cell X k ≡ cell T k
  agree k h =
      let e : k ≡ lines_base (length l) + (k - lines_base (length l)) = omega arith in
      rw e (rest_x (k - lines_base (length l)) ∙ sym (rest_t (k - lines_base (length l))))

  values_agree : (b : ℕ) → value_at X (length l) b ≡ value_at T (length l) b
  values_agree b = fun_ext (λ k. agree (line_base (length l) b + line_size * k) (omega arith))

  line_agree : (j : ℕ) → line_at X (line_base (length l) j) ≡ line_at T (line_base (length l) j)
  unfolding line_at
  line_agree j =
      let b = line_base (length l) j in
      rw (agree b (omega arith), agree (b + 1) (omega arith), agree (b + 2) (omega arith), agree (b + 3) (omega arith))

  plain_agree : (b : ℕ) → plain_at X (length l) b ≡ plain_at T (length l) b
  plain_agree b = fun_ext (λ k. ap line_plain (line_agree (b + k)))

  -- ---- a row is judged alike
  values_alike : (r : Row) → values_good X (length l) r ≡ values_good T (length l) r
  unfolding values_good lines_good lines_plain
  values_alike r =
      ap (λ (f : ℕ → Bool). sound.range_good r and (all_below r.lines f
      and values_fit r.kind (value_at X (length l) r.before) r.lines and all_differ (value_at X (length l) r.before) r.lines))
      (plain_agree r.before)
      ∙ ap (λ (f : ℕ → ℤ). sound.range_good r and (all_below r.lines (plain_at T (length l) r.before)
      and values_fit r.kind f r.lines and all_differ f r.lines)) (values_agree r.before)

  widths_alike : (r : Row) → widths_good X (length l) r ≡ widths_good T (length l) r
  unfolding widths_good widest
  widths_alike r =
      ap (λ (f : ℕ → ℤ). sound.width_good r.kind r.width (max (sound.range_width r) (max_below r.lines (λ k. need r.kind (f k))))
      and sound.room_good r.kind r)
      (values_agree r.before)

  row_alike : (e before u f : ℕ) (c : Columns) → row_good X (length l) e before (used_by u f c) ≡ row_good T (length l) e before c
  unfolding row_good columns_good counts_good places_good row_of kind_of
  row_alike e before u f c = rw (values_alike (row_of c), widths_alike (row_of c))

  module _ (g : FineEntries l) where
    lines_alike : (i : ℕ) → i < length l → lines_at X i ≡ lines_at T i
    lines_alike i h = ap (λ (c : Columns). c.lines) (columns_both (nth' g i h))

    finish_alike : (i : ℕ) → i < length l → finish_at X i ≡ finish_at T i
    finish_alike i h = ap (λ (c : Columns). c.finish) (columns_both (nth' g i h))

    before_alike : (i : ℕ) → i ≤ length l → lines_before X i ≡ lines_before T i
    unfolding sum_below
    before_alike zero h = refl
    before_alike (suc i) h = rw (before_alike i (omega arith), lines_alike i (omega arith))

    ident_x : {i : ℕ} (r : Nth' l i) → stride_at X header_size row_size i ≡ stride_at T header_size row_size i
    unfolding row_cells columns_for variable_columns
    ident_x {i} r =
        let e : header_size + row_size * i ≡ row_base i + 0 = omega arith in
        ap (cell X) e ∙ cell_there (row_stands r) 0 (omega arith) ∙ sym (ident_of t (book_nth r))

    rows_x : rows_good X (xml_header l) ≡ true
    unfolding rows_good xml_header
    rows_x =
        both_and (both_and
        (all_of (good_at X (length l) (lines_all (variables_of l))) (length l)
        (λ i h. let r = nth' g i h in
        rw (
          before_alike i (omega arith),
          columns_both r,
          row_alike (lines_all (variables_of l)) (lines_before T i) r.entry.usage r.entry.filter (columns_at T (row_base i)),
        )
        (good_t r)))
        (eq-eqb (lines_before X (length l)) (lines_all (variables_of l)) (before_alike (length l) (omega arith) ∙ sum_t)))
        (eq-eqb (highest_finish X (length l)) (highest_in (variables_of l))
        (max_same (length l) (finish_at X) (finish_at T) finish_alike ∙ high_t))
      where
        good_t : {i : ℕ} (r : Nth' l i) → good_at T (length l) (lines_all (variables_of l)) i ≡ true
        good_t r = rw (count_for l, books_lines (variables_of l)) at (row_good_lem t (books_for l) (book_nth r))

        sum_t : lines_before T (length l) ≡ lines_all (variables_of l)
        sum_t = rw (count_for l, books_lines (variables_of l)) at (sum_all (books_good g) (lines_at T) (lines_here t (books_for l)))

        high_t : highest_finish T (length l) ≡ highest_in (variables_of l)
        high_t = rw (count_for l, books_highest (variables_of l)) at
            (highest_all (books_good g) (finish_at T) (finish_here t (books_for l)))

    idents_x : idents_differ X (length l) ≡ true
    unfolding idents_differ
    idents_x =
        differ_same (stride_at X header_size row_size) (stride_at T header_size row_size) (length l) (λ i h. ident_x (nth' g i h))
        (rw (count_for l) at (idents_differ_lem t (books_for l) (books_good g)))

    counts_x : 1 ≤ length l → head_counts (xml_header l) ≡ true
    unfolding xml_header
    counts_x h = rw (
      le-leb 1 (length l) h,
      le-leb (length l) most_rows (entries_few g).0,
      le-leb (lines_all (variables_of l)) most_lines (entries_few g).1,
    )

    table_count : length (xml_table l) ≡ line_base (length l) (lines_all (variables_of l))
    table_count = sym length_both ∙ table_length (books_for l) ∙ rw (count_for l, books_lines (variables_of l))

    sums_x : length (xml_table l) ≤ length t → head_sums (xml_header l) (length X) ≡ true
    unfolding xml_header
    sums_x h =
        rw (
          eq-eqb (lines_base (length l)) (lines_base (length l)) refl,
          le-leb (line_base (length l) (lines_all (variables_of l))) (length X)
              (omega (arith, table_count, length_pasted t (xml_table l) 0 (omega arith))),
        )

    -- ---- use and filter
    module _ {i : ℕ} (r : Nth' l i) where
      abbrev v : XmlEntry
      v = r.entry

      abbrev c : Columns
      c = columns_for (lines_all (variables_of r.before)) v

      serial : (k : ℕ) (s : Bool) → (not (eqb k 3 || (true && eqb k 4)) || s) ≡ false → (leb 3 k && leb k 4) ≡ true
      serial k s e = ⊎_elim (λ h. rw (eqb-true k 3 h)) (λ h. rw (eqb-true k 4 h))
          (either_true (eqb k 3) (eqb k 4) (by (eqb k 3 || eqb k 4) e)) where
            by : (q : Bool) → (not q || s) ≡ false → q ≡ true
            by true e = refl
            by false e = none_of cc

      weight : (k : ℕ) (s : Bool) → (not (eqb k 3 || (false && eqb k 4)) || s) ≡ false → eqb k 3 ≡ true
      weight k s e = by (eqb k 3) e where
        by : (q : Bool) → (not (q || false) || s) ≡ false → q ≡ true
        by true e = refl
        by false e = none_of cc

      serve : (u k : ℕ) → u ≤ 2 → use_wrong r.before u k ≡ false
          → ((not (eqb u 1) || (leb 3 k && leb k 4)) ≡ true) × ((not (eqb u 2) || eqb k 3) ≡ true)
      unfolding use_wrong may_serve
      serve zero k h e = (refl, refl)
      serve (suc zero) k h e = (serial k (some_of (λ w. eqb w.usage 1) r.before) e, refl)
      serve (suc (suc zero)) k h e = (refl, weight k (some_of (λ w. eqb w.usage 2) r.before) e)
      serve (suc (suc (suc u))) k h e = absurd (omega arith)

      own : own_use c ≡ true
      unfolding columns_for variable_columns
      own =
          let q = serve v.usage (type_of v.variable.content) r.fine.known r.fine.right in
          rw (le-leb v.usage 2 r.fine.known, q.0, q.1, alone r.fine.filters)

      -- the logical that its filter names stands among those before
      kind_there : (p s : List XmlEntry) (w : XmlEntry) → r.before ≡ p ++ w ∷ s → (columns_at X (row_base (length p))).kind
          ≡ type_of w.variable.content
      unfolding columns_for variable_columns
      kind_there p s w e =
          let k : length p < length r.before = omega (arith, ap length e, length-append p (w ∷ s)) in
          let q = nth' r.earlier (length p) k in
          ap (λ (c : Columns). c.kind) (columns_x (further q (v ∷ r.behind) r.is))
          ∙ ap (λ (x : XmlEntry). type_of x.variable.content)
          (same_at q.before p q.behind s q.entry w q.here (sym q.is ∙ e))

      filter_x : filter_good X i c ≡ true
      unfolding filter_good columns_for variable_columns
      filter_x = by r.fine.filters where
        by : Filters r.before v → (eqb v.filter 0 || (leb v.filter i && eqb (columns_at X (row_base (v.filter - 1))).kind 5))
            ≡ true
        by (unfiltered e) = rw e
        by (filtered p s w u e f k) =
            let n : length p + 1 - 1 ≡ length p = omega arith in
            let h : length p + 1 ≤ i = omega (arith, ap length e, length-append p (w ∷ s), r.here) in
            rw (f, n, kind_there p s w e ∙ k, le-leb (length p + 1) i h) (or_true (eqb (length p + 1) 0))

      use_x : use_good X i (columns_at X (row_base i)) ≡ true
      unfolding use_good
      use_x = rw (columns_x r, own, filter_x)

      usage_x : (columns_at X (row_base i)).usage ≡ v.usage
      unfolding columns_for
      usage_x = ap (λ (c : Columns). c.usage) (columns_x r)

-- "at most one serial .. and one weight"
some_last : (k : ℕ) (l : List XmlEntry) (v : XmlEntry) → some_of (λ w. eqb w.usage k) (l ++ v ∷ [])
    ≡ (some_of (λ w. eqb w.usage k) l || eqb v.usage k)
unfolding some_of
some_last k [] v = by (eqb v.usage k) where
  by : (q : Bool) → (q || false) ≡ q
  by true = refl
  by false = refl
some_last k (w ∷ l) v = rw (some_last k l v) (by (eqb w.usage k)) where
  by : (q : Bool) → (q || (some_of (λ w. eqb w.usage k) l || eqb v.usage k))
      ≡ ((q || some_of (λ w. eqb w.usage k) l) || eqb v.usage k)
  by true = refl
  by false = refl

module _ (k : ℕ) where
  none_used : {l : List XmlEntry} (g : FineEntries l) (f : ℕ → ℕ) → ((i : ℕ) (r : Nth' l i) → f i ≡ is_use r.entry.usage k)
      → some_of (λ w. eqb w.usage k) l ≡ false → sum_below (length l) f ≡ 0
  unfolding is_use
  none_used nothing f same e = sum_none f
  none_used (more {l} {v} g w) f same e =
      let z = some_last k l v in
      let a : some_of (λ w. eqb w.usage k) l ≡ false = or_none (some_of (λ w. eqb w.usage k) l) (eqb v.usage k) (sym z ∙ e) in
      let b : eqb v.usage k ≡ false = or_neither (some_of (λ w. eqb w.usage k) l) (eqb v.usage k) (sym z ∙ e) in
      let q : f (length l) ≡ 0 = same (length l) (last g w) ∙ rw b in
      rw (length-append l (v ∷ []), sum_more f (length l), none_used g f (λ i r. same i (further r (v ∷ []) refl)) a, q)

  once_used : {l : List XmlEntry} (g : FineEntries l) (f : ℕ → ℕ) → 1 ≤ k → ((i : ℕ) (r : Nth' l i) → f i ≡ is_use r.entry.usage k)
      → sum_below (length l) f ≤ 1
  unfolding is_use use_wrong
  once_used nothing f h same = omega (arith, sum_none f)
  once_used (more {l} {v} g w) f h same =
      rw (length-append l (v ∷ []), sum_more f (length l), same (length l) (last g w))
      (by (eqb v.usage k) refl (once_used g f h (λ i r. same i (further r (v ∷ []) refl))))
    where
      by : (q : Bool) → eqb v.usage k ≡ q → sum_below (length l) f ≤ 1 → sum_below (length l) f + cond q 1 0 ≤ 1
      by false e ih = omega arith
      by true e ih =
          let u : v.usage ≡ k = eqb-true v.usage k e in
          let z : some_of (λ x. eqb x.usage k) l
          ≡ false = rw u at (fresh v.usage (type_of v.variable.content) (omega arith) w.right) in
          omega (arith, none_used g f (λ i r. same i (further r (v ∷ []) refl)) z)
        where
          fresh : (u t : ℕ) → 1 ≤ u → (ltb 0 u && (not (may_serve u t) || some_of (λ x. eqb x.usage u) l)) ≡ false
              → some_of (λ x. eqb x.usage u) l ≡ false
          fresh u t h e = or_neither (not (may_serve u t)) (some_of (λ x. eqb x.usage u) l) (rw (lt-ltb 0 u h) at e)

-- ---- "SPECIAL is always 0 here"
gathered : List Variable → List Line
gathered [] = []
gathered (v ∷ l) = lines_of v ++ gathered l

cells_join : (m n : List Line) → cells_of (m ++ n) ≡ cells_of m ++ cells_of n
unfolding cells_of
cells_join [] n = refl
cells_join (x ∷ m) n = rw (cells_join m n) (sym (append_assoc (line_cells x) (cells_of m) (cells_of n)))

gathered_cells : (l : List Variable) → all_lines l ≡ cells_of (gathered l)
unfolding all_lines gathered cells_of
gathered_cells [] = refl
gathered_cells (v ∷ l) = rw (gathered_cells l) (sym (cells_join (lines_of v) (gathered l)))

gathered_count : (l : List Variable) → length (gathered l) ≡ lines_all l
unfolding gathered lines_all
gathered_count [] = refl
gathered_count (v ∷ l) = length-append (lines_of v) (gathered l) ∙ rw (gathered_count l)

each_join : (m n : List Line) → each_of (λ s. not s.special) m ≡ true → each_of (λ s. not s.special) n ≡ true
    → each_of (λ s. not s.special) (m ++ n) ≡ true
unfolding each_of
each_join [] n a b = b
each_join (x ∷ m) n a b =
    and_true (not x.special) _ (and_left (not x.special) _ a) (each_join m n (and_right (not x.special) _ a) b)

gathered_more : (l : List Variable) (v : Variable) → gathered (l ++ v ∷ []) ≡ gathered l ++ lines_of v
unfolding gathered
gathered_more [] v = append-nil (lines_of v)
gathered_more (w ∷ l) v = rw (gathered_more l v) (sym (append_assoc (lines_of w) (gathered l) (lines_of v)))

each_plain : {l : List XmlEntry} → FineEntries l → each_of (λ s. not s.special) (gathered (variables_of l)) ≡ true
unfolding gathered each_of
each_plain nothing = refl
each_plain (more {l} {v} g f) =
    rw (variables_join l (v ∷ []), gathered_more (variables_of l) v.variable)
    (each_join (gathered (variables_of l)) (lines_of v.variable) (each_plain g) f.plain)

cells_count : (m : List Line) → length (cells_of m) ≡ 4 * length m
unfolding cells_of line_cells
cells_count [] = refl
cells_count (x ∷ m) = let h = cells_count m in omega arith

special_none : (m : List Line) → each_of (λ s. not s.special) m ≡ true → (j : ℕ) → j < length m → cell (cells_of m) (4 * j + 1) ≡ pos 0
unfolding each_of cells_of line_cells
special_none [] e j h = absurd (omega arith)
special_none (x ∷ m) e zero h = rw (not-true x.special (and_left (not x.special) _ e))
special_none (x ∷ m) e (suc j) h =
    let q : 4 * suc j + 1 ≡ suc (suc (suc (suc (4 * j + 1)))) = omega arith in
    rw q (special_none m (and_right (not x.special) _ e) j (omega arith))

module _ (t : List ℤ) (l : List XmlEntry) (g : FineEntries l) where
  specials_x : specials_none (X t l) (length l) (lines_all (variables_of l)) ≡ true
  unfolding specials_none line_at count_of
  specials_x =
      all_of (λ j. eqb (line_at (X t l) (line_base (length l) j)).special 0) (lines_all (variables_of l))
      (λ j h.
      let m = gathered (variables_of l) in
      let n : j < length m = omega (arith, gathered_count (variables_of l)) in
      let e : line_base (length l) j + 1 ≡ lines_base (length l) + (4 * j + 1) = omega arith in
      let q : cell (X t l) (line_base (length l) j + 1) ≡ pos 0 =
      ap (cell (X t l)) e ∙ rest_x t l (4 * j + 1)
      ∙ get_or-append (all_lines (variables_of l)) (drop (0 + length (xml_table l)) t) (pos 0) (4 * j + 1)
      (omega (arith, ap length (gathered_cells (variables_of l)), cells_count m))
      ∙ ap (λ (s : List ℤ). cell s (4 * j + 1)) (gathered_cells (variables_of l)) ∙ special_none m (each_plain g) j n in
      rw q)

  uses_x : uses_good (X t l) (length l) ≡ true
  unfolding uses_good
  uses_x =
      both_and (all_of (λ i. use_good (X t l) i (columns_at (X t l) (row_base i))) (length l) (λ i h. use_x t l g (nth' g i h)))
      (and_true _ _ (le-leb _ 1 (once_used 1 g (λ i. is_use (columns_at (X t l) (row_base i)).usage 1) (omega arith)
      (λ i r. ap (λ (u : ℕ). is_use u 1) (usage_x t l g r))))
      (le-leb _ 1 (once_used 2 g (λ i. is_use (columns_at (X t l) (row_base i)).usage 2) (omega arith)
      (λ i r. ap (λ (u : ℕ). is_use u 2) (usage_x t l g r)))))

  kind_x : kind_good (X t l) (xml_header l) ≡ true
  unfolding kind_good xml_good xml_header
  kind_x = both_and uses_x specials_x

  -- THE TABLE IS WELL FORMED
  pub table_well_formed : 1 ≤ length l → length (xml_table l) ≤ length t → well_formed (pasted t 0 (xml_table l)) ≡ true
  unfolding well_formed xml_header
  table_well_formed h m =
      rw (header_back t l)
      (both_and (both_and (both_and (both_and (counts_x t l g h) (sums_x t l g m)) (rows_x t l g)) (idents_x t l g)) kind_x)
