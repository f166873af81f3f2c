-- The layout of a table, "64-bit signed numbers; rows and byte places count from 0": a header of six numbers, twenty for each row,
-- four for each line.
use Rattle.std.specs.Prelude.{List, ℕ, ◌+◌, ◌*◌, ℤ}
use Rattle.cells.specs.rule.Cell.{cell, count_of}
use Rattle.layout.specs.declared.Header.{Header}
use Rattle.layout.specs.declared.Columns.{Columns}
use Rattle.layout.specs.declared.Line.{Line}

-- ---- sizes
abbrev pub header_size : ℕ
header_size = 6

abbrev pub row_size : ℕ
row_size = 20

abbrev pub line_size : ℕ
line_size = 4

-- ---- the first number of the table of a 1.1 definition, and of one in XML; and limits
abbrev pub mark : ℕ
mark = 11

abbrev pub mark_xml : ℕ
mark_xml = 12

abbrev pub most_rows : ℕ
most_rows = 512

abbrev pub most_lines : ℕ
most_lines = 4096

-- ---- where row i stands, where the lines of V rows start, and where line j stands
abbrev pub row_base : ℕ → ℕ
row_base i = header_size + row_size * i

abbrev pub lines_base : ℕ → ℕ
lines_base v = header_size + row_size * v

abbrev pub line_base : ℕ → ℕ → ℕ
line_base v j = lines_base v + line_size * j

-- ---- the numbers of the header, of a row and of a line, by their columns
unfoldable pub header_of : List ℤ → Header
header_of t = record {
  mark = count_of (cell t 0);
  rows = count_of (cell t 1);
  lines = count_of (cell t 2);
  length = count_of (cell t 3);
  rows_at = count_of (cell t 4);
  lines_at = count_of (cell t 5);
}

unfoldable pub columns_at : List ℤ → ℕ → Columns
columns_at t at = record {
  ident = count_of (cell t (at + 0));
  kind = count_of (cell t (at + 1));
  start = count_of (cell t (at + 2));
  finish = count_of (cell t (at + 3));
  width = count_of (cell t (at + 4));
  decimals = count_of (cell t (at + 5));
  point = count_of (cell t (at + 6));
  subfields = count_of (cell t (at + 7));
  subwidth = count_of (cell t (at + 8));
  range = count_of (cell t (at + 9));
  from = cell t (at + 10);
  to = cell t (at + 11);
  before = count_of (cell t (at + 12));
  lines = count_of (cell t (at + 13));
  name = count_of (cell t (at + 14));
  name_len = count_of (cell t (at + 15));
  label = count_of (cell t (at + 16));
  label_len = count_of (cell t (at + 17));
  usage = count_of (cell t (at + 18));
  filter = count_of (cell t (at + 19));
}

unfoldable pub line_at : List ℤ → ℕ → Line
line_at t at = record {
  value = cell t at;
  special = count_of (cell t (at + 1));
  text = count_of (cell t (at + 2));
  text_len = count_of (cell t (at + 3));
}
