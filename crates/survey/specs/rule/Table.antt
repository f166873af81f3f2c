-- "The table": a header of six numbers, twenty a variable, four a value line; and whether a POSITION holds its w. "Columns a type lacks
-- are 0, and from and to with no range; lines before is counted in every row." Use and filter: "the rows of 1.1 files carry 0 in both".
use Rattle.std.specs.Prelude.{Bool, List, [], ◌∷◌, ◌++◌, ℕ, ◌+◌, max, ℤ, pos, length}
use Rattle.std.proofs.Math.Option.{Option, none, some}
use Rattle.layout.specs.rule.Layout.{mark, header_size, lines_base}
use Rattle.layout.specs.rule.Row.{row_of}
use Rattle.layout.specs.declared.Columns.{Columns}
use Rattle.layout.specs.declared.Header.{Header}
use Rattle.rows.specs.rule.Cells.{row_cells, header_cells}
use Rattle.sound.specs.rule.Sound.{room_good}
use Rattle.survey.specs.rule.Survey.{Range, Line, Spread, Content, single, multiple, quantity, character, logical, Variable}
use Rattle.survey.specs.rule.Width.{flag, amounts, scaled, decimals_in, point_in, block_in, finish_in, room_in, parts_of, subwidth_of}
use Rattle.survey.specs.rule.Width.{kind_in, width_in}

-- "type (1 SINGLE, 2 MULTIPLE, 3 QUANTITY, 4 CHARACTER, 5 LOGICAL)"
abbrev pub type_of : Content → ℕ
type_of (single b) = 1
type_of (multiple s b) = 2
type_of (quantity b) = 3
type_of (character n) = 4
type_of logical = 5

abbrev pub spread_in : Content → Option Spread
spread_in (single b) = none
spread_in (multiple s b) = s
spread_in (quantity b) = none
spread_in (character n) = none
spread_in logical = none

-- range 0/1, from, to
abbrev pub ranged : Option Range → ℕ
ranged none = 0
ranged (some r) = 1

abbrev pub from_of : Option Range → ℤ
from_of none = pos 0
from_of (some r) = scaled r.from

abbrev pub to_of : Option Range → ℤ
to_of none = pos 0
to_of (some r) = scaled r.to

-- the row of a variable; `before` lines stand before its own
unfoldable pub variable_columns : ℕ → Variable → Columns
variable_columns before v =
    let b = block_in v.content in
    let room = room_in v in
    record {
      ident = v.ident.value;
      kind = type_of v.content;
      start = v.start.value;
      finish = finish_in v;
      width = width_in room v.content;
      decimals = decimals_in (amounts b);
      point = point_in (amounts b);
      subfields = parts_of (spread_in v.content);
      subwidth = subwidth_of room (spread_in v.content);
      range = ranged b.range;
      from = from_of b.range;
      to = to_of b.range;
      before = before;
      lines = length b.lines;
      name = v.name.place;
      name_len = v.name.length;
      label = v.label.place;
      label_len = v.label.length;
      usage = 0;
      filter = 0;
    }

-- "POSITION must hold w (for a spread, n times the declared subfield width, itself at least w)"
unfoldable pub holds : Variable → Bool
holds v = room_good (kind_in (room_in v) v.content) (row_of (variable_columns 0 v))

-- ---- variables one after the other
abbrev pub lines_of : Variable → List Line
lines_of v = (block_in v.content).lines

unfoldable pub lines_all : List Variable → ℕ
lines_all [] = 0
lines_all (v ∷ l) = length (lines_of v) + lines_all l

-- "least record length L (the highest finish)"
unfoldable pub highest_in : List Variable → ℕ
highest_in [] = 0
highest_in (v ∷ l) = max (finish_in v) (highest_in l)

unfoldable pub header_for : List Variable → Header
header_for l = record {
  mark = mark;
  rows = length l;
  lines = lines_all l;
  length = highest_in l;
  rows_at = header_size;
  lines_at = lines_base (length l);
}

unfoldable pub rows_from : ℕ → List Variable → List ℤ
rows_from before [] = []
rows_from before (v ∷ l) = row_cells (variable_columns before v) ++ rows_from (before + length (lines_of v)) l

-- "Line, four: value, special 0/1, text place, length"
unfoldable pub line_cells : Line → List ℤ
line_cells s = scaled s.value ∷ pos (flag s.special) ∷ pos s.text.place ∷ pos s.text.length ∷ []

unfoldable pub cells_of : List Line → List ℤ
cells_of [] = []
cells_of (s ∷ l) = line_cells s ++ cells_of l

unfoldable pub all_lines : List Variable → List ℤ
all_lines [] = []
all_lines (v ∷ l) = cells_of (lines_of v) ++ all_lines l

unfoldable pub table_of : List Variable → List ℤ
table_of l = header_cells (header_for l) ++ rows_from 0 l ++ all_lines l
