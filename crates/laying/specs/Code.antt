-- What the code keeps of variables that were read: counts, and their rows and lines in rooms of its own. With a mark they are a table.
use Rattle.std.specs.Prelude.{Bool, true, false, cond, List, [], ◌∷◌, ◌++◌, ℕ, zero, suc, ◌+◌, ◌*◌, max, ltb, ℤ, length, take}
use Rattle.cells.specs.rule.Cell.{pasted}
use Rattle.layout.specs.rule.Layout.{header_size, row_size, line_size, lines_base, line_base}
use Rattle.layout.specs.declared.Columns.{Columns}
use Rattle.layout.specs.declared.Header.{Header}
use Rattle.rows.specs.rule.Cells.{header_cells}
use Rattle.laying.specs.declared.Tally.{Tally}

-- a room in which nothing is marked yet
unfoldable pub zeros : ℕ → List ℕ
zeros zero = []
zeros (suc n) = 0 ∷ zeros n

-- with one variable more, of these columns, after which there are `last` lines
unfoldable pub tally_with : Tally → Columns → ℕ → Tally
tally_with y c last = record { rows = y.rows + 1; lines = last; length = max y.length c.finish }

-- the header by mark and tally
unfoldable pub header_by : ℕ → Tally → Header
header_by m y = record {
  mark = m;
  rows = y.rows;
  lines = y.lines;
  length = y.length;
  rows_at = header_size;
  lines_at = lines_base y.rows;
}

-- the table that the rooms hold
unfoldable pub cells_in : ℕ → Tally → List ℤ → List ℤ → List ℤ
cells_in m y rows lines = header_cells (header_by m y) ++ (take (row_size * y.rows) rows ++ take (line_size * y.lines) lines)

-- whether a table of n numbers is long enough for it, and what is then laid over the table
unfoldable pub filled_in : Tally → ℕ → Bool
filled_in y n = cond (ltb n (line_base y.rows y.lines)) false true

unfoldable pub filled_over : ℕ → Tally → List ℤ → List ℤ → List ℤ → List ℤ
filled_over m y rows lines t = cond (ltb (length t) (line_base y.rows y.lines)) t (pasted t 0 (cells_in m y rows lines))
