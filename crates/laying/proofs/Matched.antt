-- The table that the rooms hold, part by part.
use mathlib.Core.Path.{◌≡◌, refl, sym, ap, ◌∙◌}
use mathlib.Core.Bool.{Bool, false, ◌&&◌}
use mathlib.Core.List.{List, ◌++◌, append-nil}
use Prim.Native.Nat.{ℕ, ◌+◌, ◌*◌, ◌≤◌, ◌<◌}
use native.Mathlib.Omega.{arith}
use lib.IntN.{ℤ}
use lib.ListN.{length, take, drop, length-append, drop_of_length-le}
use lib.Seq.{length-take-le, drop-drop}
use Rattle.cells.specs.rule.Cell.{pasted}
use Rattle.layout.specs.rule.Layout.{header_size, row_size, line_size, lines_base, line_base}
use Rattle.layout.specs.declared.Header.{Header}
use Rattle.rows.specs.rule.Cells.{header_cells}
use Rattle.laying.specs.declared.Tally.{Tally}
use Rattle.laying.specs.rule.Begins.{begins_table}
use Rattle.laying.specs.Begins.{begins_append, begins_short}
use Rattle.laying.specs.Code.{header_by, cells_in}

pub six : (h : Header) → length (header_cells h) ≡ 6
unfolding header_cells
six h = refl

header_laid : (l : List ℤ) (h : Header) → length l ≡ 6 → pasted l 0 (header_cells h) ≡ header_cells h
unfolding pasted
header_laid l h e =
    let g : length l ≤ 0 + length (header_cells h) = omega (arith, six h) in
    rw (drop_of_length-le l {i = 0 + length (header_cells h)} g) (append-nil (header_cells h))

module _ (m : ℕ) (y : Tally) (rows lines : List ℤ) (r : row_size * y.rows ≤ length rows) (s : line_size * y.lines ≤ length lines) where
  pub cells_length : length (cells_in m y rows lines) ≡ line_base y.rows y.lines
  unfolding cells_in
  cells_length =
      length-append (header_cells (header_by m y)) (take (row_size * y.rows) rows ++ take (line_size * y.lines) lines)
      ∙ rw (
        six (header_by m y),
        length-append (take (row_size * y.rows) rows) (take (line_size * y.lines) lines),
        length-take-le (row_size * y.rows) rows r,
        length-take-le (line_size * y.lines) lines s,
      ) (omega arith)

  pub short_differs : (t : List ℤ) (n : ℕ) → n ≡ line_base y.rows y.lines → length t < n → false
      ≡ begins_table (cells_in m y rows lines) t
  short_differs t n e h = sym (begins_short (cells_in m y rows lines) t (omega (arith, cells_length)))

  pub parts_match : (t header l : List ℤ) (h : Header) (n : ℕ) (a b c : Bool) → header ≡ pasted l 0 (header_cells h) → length l ≡ 6 → h
      ≡ header_by m y → n ≡ lines_base y.rows
      → a ≡ begins_table header (drop 0 t) → b ≡ begins_table (take (row_size * y.rows) rows) (drop header_size t) → c
      ≡ begins_table (take (line_size * y.lines) lines) (drop n t)
      → (a && (b && c)) ≡ begins_table (cells_in m y rows lines) t
  unfolding cells_in
  parts_match t header l h n a b c e g i j u v w =
      rw (u, v, w, e ∙ header_laid l h g, i, j)
      (sym (begins_append (header_cells (header_by m y)) (take (row_size * y.rows) rows ++ take (line_size * y.lines) lines) t
      ∙ ap (λ (q : Bool). begins_table (header_cells (header_by m y)) t && q) rest))
    where
      past : drop (length (take (row_size * y.rows) rows)) (drop (length (header_cells (header_by m y))) t) ≡ drop (lines_base y.rows) t
      past = rw (six (header_by m y), length-take-le (row_size * y.rows) rows r) (drop-drop (row_size * y.rows) 6 t)

      rest : begins_table (take (row_size * y.rows) rows ++ take (line_size * y.lines) lines)
          (drop (length (header_cells (header_by m y))) t)
          ≡ (begins_table (take (row_size * y.rows) rows) (drop header_size t)
          && begins_table (take (line_size * y.lines) lines) (drop (lines_base y.rows) t))
      rest =
          begins_append (take (row_size * y.rows) rows) (take (line_size * y.lines) lines) (drop (length (header_cells (header_by m y))) t)
          ∙ rw (past, six (header_by m y)) refl
