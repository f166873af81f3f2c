-- THE CODE'S BOOKS, which contracts inside the library name; crate `bridge` proves them equal to the rule of crate `reading`.
-- A survey: what the statements of a definition say of its variables, in the order of the file; and the table that it gives.
use Rattle.std.specs.Prelude.{Bool, false, ◌||◌, List, [], ◌∷◌, ◌++◌, ℕ, ◌+◌, max, eqb, ℤ, length}
use Rattle.layout.specs.rule.Layout.{mark, header_size, lines_base}
use Rattle.layout.specs.rule.Row.{kind_of, row_of}
use Rattle.layout.specs.declared.Columns.{Columns}
use Rattle.layout.specs.declared.Header.{Header}
use Rattle.rows.specs.rule.Cells.{row_cells, header_cells}
use Rattle.sound.specs.rule.Sound.{room_good}
use Rattle.values.specs.declared.Said.{Said}
use Rattle.values.specs.Line.{number_at, cells_of}
use Rattle.variables.specs.declared.Head.{Head}
use Rattle.variables.specs.declared.Rest.{Rest}
use Rattle.variables.specs.Rest.{Telling}
use Rattle.measures.specs.Width.{full_columns}

-- a variable: its ident, texts, type and position, and what its type has behind them
pub record Variable : Type 0 where
  pub head : Head
  pub rest : Telling

-- its value lines
abbrev pub lines_in : Variable → List Said
lines_in v = v.rest.lines

-- the same with its lines counted, together with the `before` lines before them
unfoldable pub counted_in : ℕ → Telling → Rest
counted_in before x = record {
  block = x.block;
  last = before + length x.lines;
  subfields = x.subfields;
  subwidth = x.subwidth;
  size = x.size;
  next = x.next;
}

-- its columns, w among them, where `before` lines stand before its own
unfoldable pub columns_in : ℕ → Variable → Columns
columns_in before v = full_columns (number_at (lines_in v)) v.head (counted_in before v.rest) before

-- whether its position holds w
unfoldable pub holds_in : ℕ → Variable → Bool
holds_in before v = room_good (kind_of (columns_in before v)) (row_of (columns_in before v))

-- ---- variables one after the other
-- how many value lines they have in all
unfoldable pub lines_all : List Variable → ℕ
lines_all [] = 0
lines_all (v ∷ l) = length (lines_in v) + lines_all l

-- the highest finish
unfoldable pub highest_in : List Variable → ℕ
highest_in [] = 0
highest_in (v ∷ l) = max v.head.finish (highest_in l)

-- whether one of them has the ident n
unfoldable pub ident_met : List Variable → ℕ → Bool
ident_met [] n = false
ident_met (v ∷ l) n = eqb v.head.ident n || ident_met l n

-- ---- the table: header, rows, lines
unfoldable pub header_for : List Variable → Header
header_for l = record {
  mark = mark;
  rows = length l;
  lines = lines_all l;
  length = highest_in l;
  rows_at = header_size;
  lines_at = lines_base (length l);
}

-- the rows of variables before which `before` lines stand
unfoldable pub rows_from : ℕ → List Variable → List ℤ
rows_from before [] = []
rows_from before (v ∷ l) = row_cells (columns_in before v) ++ rows_from (before + length (lines_in v)) l

unfoldable pub all_lines : List Variable → List ℤ
all_lines [] = []
all_lines (v ∷ l) = cells_of (lines_in v) ++ all_lines l

unfoldable pub table_of : List Variable → List ℤ
table_of l = header_cells (header_for l) ++ rows_from 0 l ++ all_lines l
