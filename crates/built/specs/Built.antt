-- THE TABLE BUILT IS WELL FORMED: the table of variables that are good one behind the others, laid over any table with room for it,
-- passes the test behind refusal 20. Then, each under its own name, what the paper says of a table's numbers.
use Rattle.std.specs.Prelude.{◌≡◌, true, List, ℤ, pos, drop}
use Rattle.std.proofs.Math.Path.{refl, ap}
use Rattle.std.proofs.Common.{sym, ◌∙◌, get_or-append-add}
use Prim.Native.Nat.{ℕ, ◌+◌, ◌*◌, ◌-◌, ◌≤◌}
use native.Mathlib.Omega.{arith}
use borrow.Author.Tests.{eq-eqb, le-leb}
use Rattle.std.proofs.Math.ListN.{length}
use Rattle.std.proofs.Math.Seq.{get_or-drop}
use Rattle.below.specs.Below.{both_and, all_of}
use Rattle.cells.specs.rule.Cell.{cell, pasted}
use Rattle.layout.specs.rule.Layout.{most_rows, most_lines, lines_base, line_base, header_of}
use Rattle.layout.specs.rule.Row.{row_of, row_at}
use Rattle.layout.specs.declared.Columns.{Columns}
use Rattle.layout.specs.declared.Header.{Header}
use Rattle.sound.specs.rule.Sound.{value_at, columns_of, lines_at, finish_at, lines_before, highest_finish, good_at, head_counts, head_sums}
use Rattle.sound.specs.rule.Sound.{rows_good, well_formed}
use Rattle.uses.specs.rule.Uses.{unused, rows_unused, kind_good}
use Rattle.values.proofs.Rooms.{length_pasted}
use Rattle.measures.specs.Width.{width_of}
use Rattle.measures.specs.Survey.{Variable, lines_all, highest_in, header_for, table_of}
use Rattle.measures.specs.Good.{Good}
use Rattle.measures.proofs.Snoc.{table_length}
use Rattle.built.specs.Nth.{Nth, nth, few_rows, few_lines, sum_all, highest_all}
use Rattle.built.specs.Rows.{unused_column, before_column, lines_here, finish_here, lines_before_lem, row_good_lem, width_here}
use Rattle.built.specs.Rows.{idents_differ_lem}
use Rattle.built.specs.Cells.{laid, header_back, columns_of_lem}

module _ (t : List ℤ) (l : List Variable) (g : Good l) where
  counts_good : 1 ≤ length l → head_counts (header_for l) ≡ true
  unfolding header_for
  counts_good h = rw (le-leb 1 (length l) h, le-leb (length l) most_rows (few_rows g), le-leb (lines_all l) most_lines (few_lines g))

  -- the table keeps its length, so that it is long enough
  pub length_kept : length (table_of l) ≤ length t → length (laid t l) ≡ length t
  length_kept h = length_pasted t (table_of l) 0 (omega arith)

  sums_good : length (table_of l) ≤ length t → head_sums (header_for l) (length (laid t l)) ≡ true
  unfolding header_for
  sums_good h =
      rw (
        eq-eqb (lines_base (length l)) (lines_base (length l)) refl,
        le-leb (line_base (length l) (lines_all l)) (length (laid t l)) (omega (arith, table_length l, length_kept h)),
      )

  rows_good_lem : rows_good (laid t l) (header_for l) ≡ true
  unfolding rows_good header_for
  rows_good_lem =
      both_and (both_and
      (all_of (good_at (laid t l) (length l) (lines_all l)) (length l) (λ i h. row_good_lem t l (nth g i h)))
      (eq-eqb (lines_before (laid t l) (length l)) (lines_all l) (sum_all g (lines_at (laid t l)) (lines_here t l))))
      (eq-eqb (highest_finish (laid t l) (length l)) (highest_in l) (highest_all g (finish_at (laid t l)) (finish_here t l)))

  kind_good_lem : kind_good (laid t l) (header_for l) ≡ true
  unfolding kind_good rows_unused header_for
  kind_good_lem =
      all_of (λ i. unused (columns_of (laid t l) i)) (length l)
      (λ i h. let r = nth g i h in ap unused (columns_of_lem t r) ∙ unused_column (lines_all r.before) r.variable)

pub table_well_formed :
    (l : List Variable) (t : List ℤ)
    → Good l
    → 1 ≤ length l
    → length (table_of l) ≤ length t
    → well_formed (pasted t 0 (table_of l)) ≡ true
unfolding well_formed header_for
table_well_formed l t g h m =
    rw (header_back t l)
    (both_and (both_and (both_and (both_and (counts_good t l g h) (sums_good t l g m)) (rows_good_lem t l g)) (idents_differ_lem t l g))
    (kind_good_lem t l g))

-- ---- in the paper's words
module _ (t : List ℤ) (l : List Variable) where
  -- "A header of counts and offsets, six numbers: 11, variables V, value lines E, least record length L (the highest finish), offset
  -- of rows 6, offset of lines 6 + 18V", 20V since C-15
  pub mark_is : (header_of (laid t l)).mark ≡ 11
  unfolding header_for
  mark_is = ap (λ (h : Header). h.mark) (header_back t l)

  pub rows_are : (header_of (laid t l)).rows ≡ length l
  unfolding header_for
  rows_are = ap (λ (h : Header). h.rows) (header_back t l)

  pub lines_are : (header_of (laid t l)).lines ≡ lines_all l
  unfolding header_for
  lines_are = ap (λ (h : Header). h.lines) (header_back t l)

  pub length_is : (header_of (laid t l)).length ≡ highest_in l
  unfolding header_for
  length_is = ap (λ (h : Header). h.length) (header_back t l)

  pub rows_offset : (header_of (laid t l)).rows_at ≡ 6
  unfolding header_for
  rows_offset = ap (λ (h : Header). h.rows_at) (header_back t l)

  pub lines_offset : (header_of (laid t l)).lines_at ≡ 6 + 20 * length l
  unfolding header_for
  lines_offset = ap (λ (h : Header). h.lines_at) (header_back t l)

  -- "lines before is counted in every row": it is the number of lines of the rows before it
  pub lines_before_is : (i : ℕ) → Nth l i → (columns_of (laid t l) i).before ≡ lines_before (laid t l) i
  lines_before_is i r =
      ap (λ (c : Columns). c.before) (columns_of_lem t r) ∙ before_column (lines_all r.before) r.variable ∙ sym (lines_before_lem t l r)

  -- "The value width w": that of the numbers that stand in the row and on its lines; SIZE for CHARACTER
  pub width_is :
      (i : ℕ) (r : Nth l i)
      → (columns_of (laid t l) i).width
      ≡ width_of (row_at (laid t l) i).kind (row_at (laid t l) i)
      (value_at (laid t l) (length l) (columns_of (laid t l) i).before) r.variable.rest.size
  unfolding row_of
  width_is i r = rw (columns_of_lem t r) (width_here t l r)

  -- "Numbers beyond 6 + 18V + 4E are kept" (20V since C-15)
  pub beyond_kept : (k : ℕ) → length (table_of l) ≤ k → cell (laid t l) k ≡ cell t k
  unfolding pasted
  beyond_kept k h =
      let n : ℕ = length (table_of l) in
      let e : k ≡ n + (k - n) = omega arith in
      let z : 0 + n ≡ n = omega arith in
      rw (e, z) (get_or-append-add (table_of l) (drop n t) (k - n) (pos 0) ∙ get_or-drop n t (k - n) (pos 0))
