-- After END SSS: the rooms hold the variables, so that what is laid over the table is the table of the survey, and the names judged
-- are its names.
use mathlib.Core.Path.{◌≡◌, refl, sym, ap, ◌∙◌}
use mathlib.Core.Bool.{Bool, true, false, cond}
use mathlib.Core.List.{List, [], ◌∷◌, ◌++◌}
use Prim.Native.Nat.{ℕ, zero, suc, ◌+◌, ◌-◌, ◌*◌, ◌≤◌, ◌<◌}
use native.Mathlib.Omega.{arith}
use native.Mathlib.Nat.{le_of_suc-le-suc, not-suc-le-zero}
use borrow.Author.Tests.{lt-ltb, le-ltb}
use lib.Dec.{ltb}
use lib.IntN.{ℤ, pos}
use lib.ListN.{length, take, length-take}
use lib.Seq.{get_or-append-add, get_or-take}
use Rattle.cells.specs.rule.Cell.{cell, count_of, pasted}
use Rattle.scan.specs.rule.Text.{text}
use Rattle.marks.specs.declared.Inside.TheVariants.{Plain}
use Rattle.marks.specs.rule.Spelling.{decode_of}
use Rattle.layout.specs.rule.Layout.{mark, row_size, line_size, line_base}
use Rattle.rows.specs.rule.Cells.{row_cells, header_cells}
use Rattle.names.specs.rule.Standard.{name_at, name_fault}
use Rattle.measures.specs.Width.{full_columns, widened, plain_columns}
use Rattle.measures.specs.Survey.{Variable, lines_in, columns_in, lines_all, header_for, rows_from, all_lines, table_of}
use Rattle.measures.proofs.Snoc.{row_length, rows_length, lines_length, table_length}
use Rattle.laying.specs.declared.Tally.{Tally}
use Rattle.definition.specs.declared.Answer.TheVariants as answer
use Rattle.laying.specs.declared.Rooms.TheVariants as rooms
use Rattle.definition.specs.Books.{names_of, quote_at, Built, Refusal, fitting, named, answer_in, table_in}
use Rattle.laying.specs.Code.{header_by, cells_in, filled_over}
use Rattle.definition.specs.Code.{tally_of, Held, name_in, NamesJudged, fill_says, NamesSettled}

-- ---- the place of the name of variable i
unfoldable place_at : List Variable → ℕ → ℕ
place_at [] i = 0
place_at (v ∷ l) zero = v.head.name.place
place_at (v ∷ l) (suc i) = place_at l i

place_in : (b : ℕ) (l : List Variable) (i : ℕ) → i < length l → count_of (cell (rows_from b l) (row_size * i + 14)) ≡ place_at l i
unfolding place_at rows_from row_cells columns_in full_columns widened plain_columns count_of
place_in b [] i h = absurd (not-suc-le-zero h)
place_in b (v ∷ l) zero h = first b v (rows_from (b + length (lines_in v)) l)
  where
    first : (b : ℕ) (v : Variable) (s : List ℤ) → count_of (cell (row_cells (columns_in b v) ++ s) (row_size * 0 + 14)) ≡ v.head.name.place
    first b v s = refl
place_in b (v ∷ l) (suc i) h =
    let e : row_size * suc i + 14 ≡ length (row_cells (columns_in b v)) + (row_size * i + 14) = omega (arith, row_length b v) in
    rw (e, get_or-append-add (row_cells (columns_in b v)) (rows_from (b + length (lines_in v)) l) (row_size * i + 14) (pos 0))
    (place_in (b + length (lines_in v)) l i (le_of_suc-le-suc h))

name_at_lem : (d : List ℕ) (l : List Variable) (i : ℕ) → i < length l → name_at (names_of d l) i ≡ decode_of Plain 0 (text d (place_at l i))
unfolding place_at names_of
name_at_lem d [] i h = absurd (not-suc-le-zero h)
name_at_lem d (v ∷ l) zero h = refl
name_at_lem d (v ∷ l) (suc i) h = name_at_lem d l i (le_of_suc-le-suc h)

quote_is : (l : List Variable) (i : ℕ) → quote_at l i ≡ place_at l i - 1
unfolding place_at quote_at
quote_is [] i = refl
quote_is (v ∷ l) zero = refl
quote_is (v ∷ l) (suc i) = quote_is l i

names_count : (d : List ℕ) (l : List Variable) → length (names_of d l) ≡ length l
unfolding names_of
names_count d [] = refl
names_count d (v ∷ l) = ap suc (names_count d l)

-- as many numbers as were taken stand there
take_fits : (n : ℕ) (s : List ℤ) → length (take n s) ≡ n → n ≤ length s
take_fits n s e = omega (arith, rw (length-take n s) at e)

-- ---- what the rooms hold
module _ (d : List ℕ) (y : Tally) (rows lines : List ℤ) (l : List Variable) (h : Held l y rows lines) where
  pub count_is : y.rows ≡ length l
  unfolding tally_of
  count_is = ap (λ (z : Tally). z.rows) h.tally

  pub lines_is : y.lines ≡ lines_all l
  unfolding tally_of
  lines_is = ap (λ (z : Tally). z.lines) h.tally

  -- the rooms are long enough for what they hold
  pub rows_fit : row_size * y.rows ≤ length rows
  rows_fit =
      let e : length (take (row_size * length l) rows) ≡ row_size * length l = ap length h.rows_held ∙ rows_length 0 l in
      rw count_is (take_fits (row_size * length l) rows e)

  pub lines_fit : line_size * y.lines ≤ length lines
  lines_fit =
      let e : length (take (line_size * lines_all l) lines) ≡ line_size * lines_all l = ap length h.lines_held ∙ lines_length l in
      rw lines_is (take_fits (line_size * lines_all l) lines e)

  place_here : (i : ℕ) → i < length l → count_of (cell rows (row_size * i + 14)) ≡ place_at l i
  place_here i k =
      let a : row_size * i + 14 < row_size * length l = omega arith in
      ap count_of (sym (get_or-take (row_size * length l) rows (row_size * i + 14) (pos 0) a)
      ∙ ap (λ (s : List ℤ). cell s (row_size * i + 14)) h.rows_held) ∙ place_in 0 l i k

  -- the first name at fault
  fault_here : (r : ℕ) → NamesJudged d rows y.rows r → r ≡ name_fault (names_of d l)
  unfolding name_in
  fault_here r j =
      j.fault_is (names_of d l) (names_count d l ∙ sym count_is)
      (λ i k. let q : i < length l = omega (arith, count_is) in
      ap (λ (p : ℕ). decode_of Plain 0 (text d p)) (place_here i q) ∙ sym (name_at_lem d l i q))

  -- the numbers that the rooms hold are those of the survey
  pub cells_are : cells_in mark y rows lines ≡ table_of l
  unfolding cells_in header_by tally_of header_for table_of header_cells all_lines rows_from
  cells_are = ap (λ (z : Tally). cells_in mark z rows lines) h.tally ∙ held_parts where
    held_parts : header_cells (header_for l) ++ (take (row_size * length l) rows ++ take (line_size * lines_all l) lines) ≡ table_of l
    held_parts = rw (h.rows_held, h.lines_held) refl

  -- and so is what is laid over the table
  module _ (t : List ℤ) where
    pub says_fit : fill_says y (length t) ≡ answer_in (fitting (length t) l)
    unfolding fill_says fitting answer_in
    says_fit = rw (count_is, lines_is, table_length l) (by (ltb (length t) (line_base (length l) (lines_all l))))
      where
        by : (b : Bool) → cond b (answer.Refused 10 0) (answer.Read (length l) (lines_all l)) ≡ answer_in (cond b (Refusal 10 0) (Built l))
        by true = refl
        by false = refl

    base_is : line_base y.rows y.lines ≡ length (table_of l)
    base_is = rw (count_is, lines_is) (sym (table_length l))

    pub leaves_fit : filled_over mark y rows lines t ≡ table_in (fitting (length t) l) t
    unfolding filled_over fitting table_in
    leaves_fit = rw (base_is, cells_are) (by (ltb (length t) (length (table_of l))))
      where
        by : (b : Bool) → cond b t (pasted t 0 (table_of l)) ≡ table_in (cond b (Refusal 10 0) (Built l)) t
        by true = refl
        by false = refl

  -- with STANDARD NAMES, where all names are good
  good_outcome : (n r : ℕ) → NamesJudged d rows y.rows r → y.rows ≤ r → named d n true l ≡ fitting n l
  unfolding named
  good_outcome n r j k = rw (← fault_here r j, le-ltb r (length l) (omega (arith, count_is)))

  -- or one is not
  bad_outcome : (n r : ℕ) → NamesJudged d rows y.rows r → r < y.rows → named d n true l
      ≡ Refusal 9 (count_of (cell rows (row_size * r + 14)) - 1)
  unfolding named
  bad_outcome n r j k =
      let q : r < length l = omega (arith, count_is) in
      rw (← fault_here r j, lt-ltb r (length l) q, quote_is l r, ← place_here r q)

-- ---- 9, judged of the rooms
none : {A : Type 0} → ◌≡◌ {A = ℕ} 0 1 → A
none e = absurd (omega arith)

module _ (d : List ℕ) (y : Tally) (rows : List ℤ) where
  pub plain_settled : NamesSettled d false y rows (rooms.Held y)
  unfolding named
  plain_settled = record { passes = λ {z} e l lines h. (held_same z e, λ n. refl); fails = λ e l lines h n. none cc } where
    held_same : (z : Tally) → rooms.Held y ≡ rooms.Held z → z ≡ y
    held_same z e = cc

  module _ (r : ℕ) (j : NamesJudged d rows y.rows r) where
    pub good_settled : y.rows ≤ r → NamesSettled d true y rows (rooms.Held y)
    good_settled k = record {
      passes = λ {z} e l lines h. (held_same z e, λ n. good_outcome d y rows lines l h n r j k);
      fails = λ e l lines h n. none cc;
    } where
      held_same : (z : Tally) → rooms.Held y ≡ rooms.Held z → z ≡ y
      held_same z e = cc

    pub bad_settled : (p q : ℕ) → r < y.rows → p ≡ count_of (cell rows (row_size * r + 14)) → q ≡ p - 1
        → NamesSettled d true y rows (rooms.Refused 9 q)
    bad_settled p q k e f = record {
      passes = λ i l lines h. none cc;
      fails = λ {k = u} {p = v} i l lines h n.
          let a : u ≡ 9 = cc in
          let b : v ≡ q = cc in
          bad_outcome d y rows lines l h n r j k ∙ rw (a, b, f, e);
    }
