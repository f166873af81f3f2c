-- THE SAME SURVEY, THE SAME TABLE apart from text places and lengths; and the same names.
use Rattle.std.specs.Prelude.{◌≡◌, ℕ, suc, ◌+◌, ◌*◌, ◌≤◌, ℤ}
use Rattle.std.proofs.Math.Path.{refl}
use Rattle.std.proofs.Common.{sym, ap, ◌∙◌, mul-suc, arith}
use mathlib.Core.List.{List, [], ◌∷◌, ◌++◌, append_assoc}
use Rattle.std.proofs.Math.ListN.{length, length-append}
use Rattle.cells.specs.rule.Cell.{count_of}
use Rattle.layout.specs.rule.Layout.{row_size, header_of}
use Rattle.layout.specs.declared.Columns.{Columns}
use Rattle.layout.specs.declared.Header.{Header}
use Rattle.rows.specs.rule.Cells.{row_cells, header_cells}
use Rattle.survey.specs.rule.Survey.{Line, Variable}
use Rattle.survey.specs.rule.Table.{variable_columns, lines_of, lines_all, highest_in, header_for, rows_from, line_cells, cells_of}
use Rattle.survey.specs.rule.Table.{all_lines}
use Rattle.survey.specs.rule.Table.{table_of}
use Rattle.definition.specs.rule.Definition.{names_of}
use Rattle.clean_laws.specs.Masked.{masked_lines, masked_row, masked_rows, masked}
use Rattle.clean_laws.specs.Same.{Alike, nil, more, SameLine, SameVariable}
use Rattle.clean_laws.specs.Columns.{untexted, scaled_same, length_same, shape, columns_same}

module _ (d p : List ℕ) where
  -- ---- lines
  cells_same : {l l' : List Line} (t t' : List ℤ) → Alike (SameLine d p) l l' → masked_lines t' ≡ masked_lines t
      → masked_lines (cells_of l' ++ t') ≡ masked_lines (cells_of l ++ t)
  unfolding cells_of line_cells masked_lines
  cells_same t t' nil e = e
  cells_same t t' (more s r) e = rw (scaled_same d p s.value, s.special, cells_same t t' r e)

  lines_of_lem : {v v' : Variable} → SameVariable d p v v' → Alike (SameLine d p) (lines_of v) (lines_of v')
  lines_of_lem s = (shape d p s).lines

  all_lines_same : {l l' : List Variable} → Alike (SameVariable d p) l l' → masked_lines (all_lines l') ≡ masked_lines (all_lines l)
  unfolding all_lines
  all_lines_same nil = refl
  all_lines_same (more {l = l} {m = l'} s r) = cells_same (all_lines l) (all_lines l') (lines_of_lem s) (all_lines_same r)

  -- ---- rows
  row_masked : (c : Columns) → masked_row (row_cells c) ≡ row_cells (untexted c)
  unfolding masked_row row_cells untexted
  row_masked c = refl

  row_same : {v v' : Variable} (before : ℕ) → SameVariable d p v v'
      → masked_row (row_cells (variable_columns before v')) ≡ masked_row (row_cells (variable_columns before v))
  row_same {v} {v'} before s =
      row_masked (variable_columns before v') ∙ ap row_cells (columns_same d p s before) ∙ sym (row_masked (variable_columns before v))

  rows_step : (c : Columns) (n : ℕ) (t : List ℤ) → masked_rows (suc n) (row_cells c ++ t) ≡ masked_row (row_cells c) ++ masked_rows n t
  unfolding masked_rows row_cells
  rows_step c n t = refl

  rows_same : {l l' : List Variable} (t t' : List ℤ) (before : ℕ) → Alike (SameVariable d p) l l' → masked_lines t' ≡ masked_lines t
      → masked_rows (length l') (rows_from before l' ++ t') ≡ masked_rows (length l) (rows_from before l ++ t)
  unfolding rows_from masked_rows
  rows_same t t' before nil e = e
  rows_same t t' before (more {a = v} {b = v'} {l = l} {m = l'} s r) e =
      let k = length_same d p (lines_of_lem s) in
      let f = rows_same t t' (before + length (lines_of v)) r e in
      let g = append_assoc (row_cells (variable_columns before v)) (rows_from (before + length (lines_of v)) l) t in
      let g' = append_assoc (row_cells (variable_columns before v')) (rows_from (before + length (lines_of v)) l') t' in
      rw (k, g, g')
      (rows_step (variable_columns before v') (length l') (rows_from (before + length (lines_of v)) l' ++ t')
      ∙ rw (row_same before s, f) (sym (rows_step (variable_columns before v) (length l)
      (rows_from (before + length (lines_of v)) l ++ t))))

  -- ---- the header
  pub lines_all_same : {l l' : List Variable} → Alike (SameVariable d p) l l' → lines_all l' ≡ lines_all l
  unfolding lines_all
  lines_all_same nil = refl
  lines_all_same (more s r) = rw (length_same d p (lines_of_lem s), lines_all_same r)

  highest_same : {l l' : List Variable} → Alike (SameVariable d p) l l' → highest_in l' ≡ highest_in l
  unfolding highest_in
  highest_same nil = refl
  highest_same (more s r) = rw (s.finish.value, highest_same r)

  header_same : {l l' : List Variable} → Alike (SameVariable d p) l l' → header_for l' ≡ header_for l
  unfolding header_for
  header_same s = rw (length_same d p s, lines_all_same s, highest_same s)

  header_rows : (l : List Variable) → (header_for l).rows ≡ length l
  unfolding header_for
  header_rows l = refl

  table_masked : (h : Header) (r t : List ℤ) → masked (header_cells h ++ r ++ t) ≡ header_cells h ++ masked_rows h.rows (r ++ t)
  unfolding masked header_cells header_of count_of
  table_masked h r t = refl

  -- THE SAME TABLE apart from text places and lengths
  pub table_same : {l l' : List Variable} → Alike (SameVariable d p) l l' → masked (table_of l') ≡ masked (table_of l)
  unfolding table_of
  table_same {l} {l'} s =
      let e : masked_rows (length l) (rows_from 0 l' ++ all_lines l') ≡ masked_rows (length l) (rows_from 0 l ++ all_lines l) =
      rw (length_same d p s) at (rows_same (all_lines l) (all_lines l') 0 s (all_lines_same s)) in
      table_masked (header_for l') (rows_from 0 l') (all_lines l')
      ∙ rw (header_same s, header_rows l, e) (sym (rw (header_rows l) at (table_masked (header_for l) (rows_from 0 l) (all_lines l))))

  -- ---- names
  pub names_same : {l l' : List Variable} → Alike (SameVariable d p) l l' → names_of p l' ≡ names_of d l
  unfolding names_of
  names_same nil = refl
  names_same (more s r) = rw (s.name.decoded, names_same r)

  -- ---- and it is as long
  cells_long : {l l' : List Line} → Alike (SameLine d p) l l' → length (cells_of l') ≡ length (cells_of l)
  unfolding cells_of line_cells
  cells_long nil = refl
  cells_long (more s r) = rw (cells_long r)

  lines_long : {l l' : List Variable} → Alike (SameVariable d p) l l' → length (all_lines l') ≡ length (all_lines l)
  unfolding all_lines
  lines_long nil = refl
  lines_long (more {a = v} {b = v'} {l = l} {m = l'} s r) =
      length-append (cells_of (lines_of v')) (all_lines l')
      ∙ rw (cells_long (lines_of_lem s), lines_long r) (sym (length-append (cells_of (lines_of v)) (all_lines l)))

  rows_long : {l l' : List Variable} (a b : ℕ) → Alike (SameVariable d p) l l' → length (rows_from a l') ≡ length (rows_from b l)
  unfolding rows_from row_cells
  rows_long a b nil = refl
  rows_long a b (more {a = v} {b = v'} s r) = rw (rows_long (a + length (lines_of v')) (b + length (lines_of v)) r)

  pub table_long : {l l' : List Variable} → Alike (SameVariable d p) l l' → length (table_of l') ≡ length (table_of l)
  unfolding table_of header_cells
  table_long {l} {l'} s =
      length-append (header_cells (header_for l') ++ rows_from 0 l') (all_lines l')
      ∙ rw (rows_long 0 0 s, lines_long s) (sym (length-append (header_cells (header_for l) ++ rows_from 0 l) (all_lines l)))

-- ---- a table has its rows, and room for them
pub rows_told : (l : List Variable) → (header_of (table_of l)).rows ≡ length l
unfolding table_of header_for header_cells header_of count_of
rows_told l = refl

rows_length : (before : ℕ) (l : List Variable) → length (rows_from before l) ≡ row_size * length l
unfolding rows_from row_cells
rows_length before [] = refl
rows_length before (v ∷ l) = rw (rows_length (before + length (lines_of v)) l) (omega (arith, mul-suc row_size (length l)))

pub rows_room : (l : List Variable) → 6 + row_size * length l ≤ length (table_of l)
unfolding table_of header_cells
rows_room l =
    let e = length-append (header_cells (header_for l) ++ rows_from 0 l) (all_lines l) in
    let f = rows_length 0 l in
    omega arith
