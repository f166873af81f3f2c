-- One variable more: what it adds to the rows, the lines and the header.
use mathlib.Core.Path.{◌≡◌, refl, sym, ap, ◌∙◌}
use mathlib.Core.Bool.{Bool, true, false, ◌||◌}
use mathlib.Core.List.{List, [], ◌∷◌, ◌++◌, append_assoc}
use Prim.Native.Nat.{ℕ, ◌+◌, ◌*◌, max}
use native.Mathlib.Omega.{arith}
use lib.Dec.{eqb}
use lib.IntN.{ℤ}
use lib.ListN.{length, length-append}
use Rattle.layout.specs.rule.Layout.{row_size, line_size, line_base}
use Rattle.rows.specs.rule.Cells.{row_cells, header_cells}
use Rattle.values.specs.Line.{cells_of}
use Rattle.values.proofs.Rooms.{cells_length}
use Rattle.measures.specs.Survey.{Variable, lines_in, columns_in, lines_all, highest_in, ident_met, header_for, rows_from, all_lines}
use Rattle.measures.specs.Survey.{table_of}

abbrev pub added : List Variable → Variable → List Variable
added l v = l ++ v ∷ []

pub length_with : (l : List Variable) (v : Variable) → length (added l v) ≡ length l + 1
length_with l v = length-append l (v ∷ [])

pub lines_with : (l : List Variable) (v : Variable) → lines_all (added l v) ≡ lines_all l + length (lines_in v)
unfolding lines_all
lines_with [] v = omega arith
lines_with (w ∷ l) v = omega (arith, lines_with l v)

pub highest_with : (l : List Variable) (v : Variable) → highest_in (added l v) ≡ max (highest_in l) v.head.finish
unfolding highest_in
highest_with [] v = omega arith
highest_with (w ∷ l) v = omega (arith, highest_with l v)

pub met_with : (l : List Variable) (v : Variable) (n : ℕ) → ident_met (added l v) n ≡ (ident_met l n || eqb v.head.ident n)
unfolding ident_met
met_with [] v n = by (eqb v.head.ident n) where
  by : (b : Bool) → (b || false) ≡ b
  by true = refl
  by false = refl
met_with (w ∷ l) v n = rw (met_with l v n) (by (eqb w.head.ident n)) where
  by : (b : Bool) → (b || (ident_met l n || eqb v.head.ident n)) ≡ ((b || ident_met l n) || eqb v.head.ident n)
  by true = refl
  by false = refl

nil_right : (s : List ℤ) → s ++ [] ≡ s
nil_right [] = refl
nil_right (x ∷ s) = ap (x ∷◌) (nil_right s)

pub rows_with : (b : ℕ) (l : List Variable) (v : Variable) → rows_from b (added l v) ≡ rows_from b l
    ++ row_cells (columns_in (b + lines_all l) v)
unfolding rows_from lines_all
rows_with b [] v =
    let e : b + 0 ≡ b = omega arith in
    nil_right (row_cells (columns_in b v)) ∙ rw e
rows_with b (w ∷ l) v =
    let n = length (lines_in w) in
    let e : b + n + lines_all l ≡ b + (n + lines_all l) = omega arith in
    ap (λ (s : List ℤ). row_cells (columns_in b w) ++ s) (rows_with (b + n) l v ∙ rw e)
    ∙ sym (append_assoc (row_cells (columns_in b w)) (rows_from (b + n) l) (row_cells (columns_in (b + (n + lines_all l)) v)))

pub cells_with : (l : List Variable) (v : Variable) → all_lines (added l v) ≡ all_lines l ++ cells_of (lines_in v)
unfolding all_lines
cells_with [] v = nil_right (cells_of (lines_in v))
cells_with (w ∷ l) v = ap (λ (s : List ℤ). cells_of (lines_in w) ++ s) (cells_with l v)
    ∙ sym (append_assoc (cells_of (lines_in w)) (all_lines l) (cells_of (lines_in v)))

-- ---- lengths
pub row_length : (b : ℕ) (v : Variable) → length (row_cells (columns_in b v)) ≡ row_size
unfolding row_cells
row_length b v = refl

pub rows_length : (b : ℕ) (l : List Variable) → length (rows_from b l) ≡ row_size * length l
unfolding rows_from
rows_length b [] = refl
rows_length b (v ∷ l) =
    length-append (row_cells (columns_in b v)) (rows_from (b + length (lines_in v)) l)
    ∙ rw (row_length b v, rows_length (b + length (lines_in v)) l) (omega arith)

pub lines_length : (l : List Variable) → length (all_lines l) ≡ line_size * lines_all l
unfolding all_lines lines_all
lines_length [] = refl
lines_length (v ∷ l) =
    length-append (cells_of (lines_in v)) (all_lines l)
    ∙ rw (cells_length (lines_in v), lines_length l) (omega arith)

pub table_length : (l : List Variable) → length (table_of l) ≡ line_base (length l) (lines_all l)
unfolding table_of header_cells
table_length l =
    length-append (header_cells (header_for l)) (rows_from 0 l ++ all_lines l)
    ∙ rw (length-append (rows_from 0 l) (all_lines l), rows_length 0 l, lines_length l) (omega arith)
