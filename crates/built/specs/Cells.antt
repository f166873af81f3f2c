-- The numbers of a table that a survey's table was laid over: its header, its rows, its lines, and what stands behind them.
use Rattle.std.specs.Prelude.{◌≡◌, ℕ, ◌+◌, ◌*◌, ◌<◌, ℤ, pos, drop}
use Rattle.std.proofs.Math.Path.{refl, sym, ap}
use Rattle.std.proofs.Common.{◌∙◌, length-append}
use mathlib.Core.List.{List, [], ◌∷◌, ◌++◌, append_assoc}
use native.Mathlib.Omega.{arith}
use Rattle.std.proofs.Math.ListN.{length}
use Rattle.cells.specs.rule.Cell.{count_of, pasted}
use Rattle.layout.specs.rule.Layout.{header_size, row_size, line_size, row_base, line_base, header_of, line_at}
use Rattle.rows.specs.rule.Cells.{row_cells, header_cells}
use Rattle.sound.specs.rule.Sound.{columns_of, value_at}
use Rattle.strides.specs.rule.Stride.{stride_at}
use Rattle.values.specs.Line.{number_at, cells_of}
use Rattle.values.proofs.Rooms.{cells_length, cells_number}
use Rattle.measures.specs.Survey.{Variable, lines_in, columns_in, lines_all, header_for, rows_from, all_lines, table_of}
use Rattle.measures.specs.Width.{full_columns, widened, plain_columns}
use Rattle.measures.proofs.Snoc.{rows_length, lines_length}
use Rattle.built.specs.Standing.{Stands, inside, cell_there, columns_there, line_there}
use Rattle.built.specs.Nth.{Nth}

-- the table of a survey, laid over t
abbrev pub laid : List ℤ → List Variable → List ℤ
laid t l = pasted t 0 (table_of l)

-- ---- rows and lines of some variables, then of others
rows_join : (b : ℕ) (p q : List Variable) → rows_from b (p ++ q) ≡ rows_from b p ++ rows_from (b + lines_all p) q
unfolding rows_from lines_all
rows_join b [] q = let e : b + 0 ≡ b = omega arith in rw e
rows_join b (v ∷ p) q =
    let n = length (lines_in v) in
    let e : b + n + lines_all p ≡ b + (n + lines_all p) = omega arith in
    rw (rows_join (b + n) p q, e) (sym (append_assoc (row_cells (columns_in b v)) (rows_from (b + n) p)
    (rows_from (b + (n + lines_all p)) q)))

cells_join : (p q : List Variable) → all_lines (p ++ q) ≡ all_lines p ++ all_lines q
unfolding all_lines
cells_join [] q = refl
cells_join (v ∷ p) q = rw (cells_join p q) (sym (append_assoc (cells_of (lines_in v)) (all_lines p) (all_lines q)))

-- ---- the header
pub header_back : (t : List ℤ) (l : List Variable) → header_of (laid t l) ≡ header_for l
unfolding header_of pasted table_of header_cells count_of header_for
header_back t l = refl

table_stands : (t : List ℤ) (l : List Variable) → Stands (laid t l) 0 (table_of l)
unfolding pasted
table_stands t l = record { front = []; rest = drop (0 + length (table_of l)) t; is = refl; here = refl }

module _ (t : List ℤ) {l : List Variable} {i : ℕ} (r : Nth l i) where
  -- ---- row i
  row_stands : Stands (laid t l) (row_base i) (row_cells (columns_in (lines_all r.before) r.variable))
  unfolding table_of rows_from header_cells
  row_stands =
      let front = header_cells (header_for l) in
      let b = lines_all r.before in
      let own = row_cells (columns_in b r.variable) in
      let rows : Stands (laid t l) header_size (rows_from 0 l) =
      inside (table_stands t l) front (rows_from 0 l) (all_lines l) header_size (append_assoc front (rows_from 0 l) (all_lines l)) refl in
      let z : 0 + b ≡ b = omega arith in
      inside rows (rows_from 0 r.before) own (rows_from (b + length (lines_in r.variable)) r.behind) (row_base i)
      (ap (rows_from 0) r.is ∙ rows_join 0 r.before (r.variable ∷ r.behind) ∙ rw z)
      (rw (rows_length 0 r.before, r.here))

  pub columns_of_lem : columns_of (laid t l) i ≡ columns_in (lines_all r.before) r.variable
  columns_of_lem = columns_there row_stands

  -- its ident as it stands
  pub ident_of : stride_at (laid t l) header_size row_size i ≡ pos r.variable.head.ident
  unfolding row_cells columns_in full_columns widened plain_columns
  ident_of = let e : header_size + row_size * i ≡ row_base i + 0 = omega arith in rw e (cell_there row_stands 0 (omega arith))

  -- ---- its lines
  lines_stand : Stands (laid t l) (line_base (length l) (lines_all r.before)) (cells_of (lines_in r.variable))
  unfolding table_of all_lines header_cells
  lines_stand =
      let front = header_cells (header_for l) ++ rows_from 0 l in
      let lines = cells_of (lines_in r.variable) in
      let e : all_lines l ≡ all_lines r.before ++ (lines ++ all_lines r.behind) =
      ap all_lines r.is ∙ cells_join r.before (r.variable ∷ r.behind) in
      inside (table_stands t l) (front ++ all_lines r.before) lines (all_lines r.behind) _
      (ap (λ (s : List ℤ). front ++ s) e ∙ sym (append_assoc front (all_lines r.before) (lines ++ all_lines r.behind)))
      (rw (length-append front (all_lines r.before), lines_length r.before, rows_length 0 l) (omega arith))

  pub value_of :
      (k : ℕ)
      → k < length (lines_in r.variable)
      → value_at (laid t l) (length l) (lines_all r.before) k ≡ number_at (lines_in r.variable) k
  value_of k h =
      cell_there lines_stand (line_size * k) (omega (arith, cells_length (lines_in r.variable)))
      ∙ cells_number (lines_in r.variable) k h

  pub line_of_lem :
      (k : ℕ)
      → k < length (lines_in r.variable)
      → line_at (laid t l) (line_base (length l) (lines_all r.before + k)) ≡ line_at (cells_of (lines_in r.variable)) (line_size * k)
  line_of_lem k h =
      let b = lines_all r.before in
      let e : line_base (length l) (b + k) ≡ line_base (length l) b + line_size * k = omega arith in
      rw e (line_there lines_stand (line_size * k) (omega (arith, cells_length (lines_in r.variable))))
