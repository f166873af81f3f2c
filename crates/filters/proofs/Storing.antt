-- One row more in the room: it then holds one variable more; and what may be asked of the rows of variables that keep the rule.
use mathlib.Core.Path.{◌≡◌, refl, sym, ap, ◌∙◌}
use mathlib.Core.List.{List, [], ◌∷◌, ◌++◌, append_assoc}
use Prim.Native.Nat.{ℕ, zero, suc, ◌+◌, ◌*◌, ◌≤◌, ◌<◌}
use native.Mathlib.Omega.{arith}
use lib.IntN.{ℤ}
use lib.ListN.{length, take, drop, length-append}
use lib.Seq.{take_at, length-take-le}
use Rattle.cells.specs.rule.Cell.{pasted}
use Rattle.layout.specs.rule.Layout.{row_size, most_rows}
use Rattle.rows.specs.rule.Cells.{row_cells}
use Rattle.survey.specs.rule.Table.{lines_of, lines_all}
use Rattle.xml_reading.specs.rule.Role.{XmlEntry, variables_of}
use Rattle.xml_reading.specs.rule.Whole.{columns_for, xml_rows}
use Rattle.filters.specs.rule.Kept.{At, name_of, Kept}
use Rattle.survey.specs.rule.Survey.{KeptText}
use Rattle.filters.specs.Code.{column_in, Lying, RowsOf}
use Rattle.filters.proofs.Rooms.{row_long, row_reads, next_row}
use Rattle.filters.proofs.Keeping.{Split, old, new, at_none, at_split}

-- ---- rows
nil_right : (s : List ℤ) → s ++ [] ≡ s
nil_right [] = refl
nil_right (x ∷ s) = ap (x ∷◌) (nil_right s)

rows_with : (b : ℕ) (l : List XmlEntry) (v : XmlEntry) → xml_rows b (l ++ v ∷ []) ≡ xml_rows b l
    ++ row_cells (columns_for (b + lines_all (variables_of l)) v)
unfolding xml_rows lines_all
rows_with b [] v =
    let e : b + 0 ≡ b = omega arith in
    nil_right (row_cells (columns_for b v)) ∙ rw e
rows_with b (w ∷ l) v =
    let n = length (lines_of w.variable) in
    let e : b + n + lines_all (variables_of l) ≡ b + (n + lines_all (variables_of l)) = omega arith in
    ap (λ (s : List ℤ). row_cells (columns_for b w) ++ s) (rows_with (b + n) l v ∙ rw e)
    ∙ sym (append_assoc (row_cells (columns_for b w)) (xml_rows (b + n) l)
    (row_cells (columns_for (b + (n + lines_all (variables_of l))) v)))

pub rows_none : (rows : List ℤ) → RowsOf rows 0 []
unfolding xml_rows
rows_none rows = record { counted = refl; held = refl }

-- the row of one more
pub rows_more : (rows : List ℤ) (count : ℕ) (l : List XmlEntry) (v : XmlEntry) → length rows ≡ row_size * most_rows → count < most_rows
    → RowsOf rows count l
    → RowsOf (pasted rows (row_size * count) (row_cells (columns_for (lines_all (variables_of l)) v))) (count + 1) (l ++ v ∷ [])
unfolding pasted
rows_more rows count l v r k h = record { counted = length-append l (v ∷ []) ∙ (let c = h.counted in omega arith); held = here } where
  s : List ℤ
  s = row_cells (columns_for (lines_all (variables_of l)) v)

  long : length (take (row_size * count) rows ++ s) ≡ row_size * (count + 1)
  long =
      let a : row_size * count ≤ length rows = omega arith in
      let b = length-take-le (row_size * count) rows a in
      let c = row_long (columns_for (lines_all (variables_of l)) v) in
      length-append (take (row_size * count) rows) s ∙ omega arith

  here : take (row_size * (count + 1)) (take (row_size * count) rows ++ s ++ drop (row_size * count + length s) rows)
      ≡ xml_rows 0 (l ++ v ∷ [])
  here =
      take_at (take (row_size * count) rows ++ s) (drop (row_size * count + length s) rows) (row_size * (count + 1)) long
      ∙ ap (λ (x : List ℤ). x ++ s) h.held
      ∙ (let e : 0 + lines_all (variables_of l) ≡ lines_all (variables_of l) = omega arith in
      ap (λ (n : ℕ). xml_rows 0 l ++ row_cells (columns_for n v)) (sym e))
      ∙ sym (rows_with 0 l v)

-- ---- names within a file of n bytes
pub record NamesLie (n : ℕ) (l : List XmlEntry) : Type 0 where
  pub lie : (i : ℕ) (v : XmlEntry) → At l i v → (name_of v).place + (name_of v).length ≤ n

pub lie_none : (n : ℕ) → NamesLie n []
lie_none n = record { lie = λ i v a. absurd (at_none a refl) }

pub lie_more : (n : ℕ) (l : List XmlEntry) (w : XmlEntry) → NamesLie n l → (name_of w).place + (name_of w).length ≤ n
    → NamesLie n (l ++ w ∷ [])
lie_more n l w x h = record { lie = λ i v a. by i v (at_split l w a) } where
  by : (i : ℕ) (v : XmlEntry) → Split l w i v → (name_of v).place + (name_of v).length ≤ n
  by i v (old a) = x.lie i v a
  by i v (new e) = h

-- what the calls of this crate ask
pub lying : (n : ℕ) (rows : List ℤ) (count : ℕ) (l : List XmlEntry) → length rows ≡ row_size * most_rows → count ≤ most_rows
    → RowsOf rows count l
    → Kept l
    → NamesLie n l → Lying n rows count
lying n rows count l r k h x y = record { room = r; few = k; names = named; filters = filtered } where
  named : (i : ℕ) → i < count → column_in rows i 14 + column_in rows i 15 ≤ n
  named i g =
      let c = h.counted in
      let z = next_row l i (omega arith) in
      let e = (row_reads h z.at).name in
      omega (arith, ap (λ (t : KeptText). t.place) e, ap (λ (t : KeptText). t.length) e, y.lie i z.row z.at)

  before : (i : ℕ) (v : XmlEntry) → At l i v → (f : ℕ) → v.filter ≡ f → f ≤ i
  before i v a zero e = omega arith
  before i v a (suc f) e = let b = ((x.rows i v a).filter f e).earlier in omega arith

  filtered : (i : ℕ) → i < count → column_in rows i 19 ≤ count
  filtered i g =
      let c = h.counted in
      let z = next_row l i (omega arith) in
      let e = (row_reads h z.at).filter in
      let b = before i z.row z.at z.row.filter refl in
      omega arith
