-- "no number of it is negative but a quantity's from, to and line values": of a well-formed table every number of the header, of the V
-- rows and of the E lines, column by column.
use Rattle.std.specs.Prelude.{◌≡◌, true, List, ℕ, ◌+◌, ◌≤◌, ◌<◌, ℤ, pos}
use Rattle.std.specs.Int.Signed.{le_z}
use Rattle.cells.specs.rule.Cell.{cell}
use Rattle.layout.specs.rule.Layout.{row_base, line_base, header_of, columns_at}
use Rattle.sound.specs.rule.Sound.{columns_of, lines_at, lines_before}
use Rattle.sound.specs.rule.Rows.{rows_of}

-- ---- the words
abbrev pub NotNegative : ℤ → Type 0
NotNegative z = le_z (pos 0) z ≡ true

pub record HeaderSigns (t : List ℤ) : Type 0 where
  pub mark : NotNegative (cell t 0)
  pub rows : NotNegative (cell t 1)
  pub lines : NotNegative (cell t 2)
  pub least_length : NotNegative (cell t 3)
  pub rows_at : NotNegative (cell t 4)
  pub lines_at : NotNegative (cell t 5)

-- a row's twenty numbers, of which from and to may be negative in a quantity (type 3) alone
pub record RowSigns (t : List ℤ) (at : ℕ) : Type 0 where
  pub ident : NotNegative (cell t (at + 0))
  pub kind : NotNegative (cell t (at + 1))
  pub start : NotNegative (cell t (at + 2))
  pub finish : NotNegative (cell t (at + 3))
  pub width : NotNegative (cell t (at + 4))
  pub decimals : NotNegative (cell t (at + 5))
  pub point : NotNegative (cell t (at + 6))
  pub subfields : NotNegative (cell t (at + 7))
  pub subwidth : NotNegative (cell t (at + 8))
  pub range : NotNegative (cell t (at + 9))
  pub from : ((columns_at t at).kind ≡ 3 → ⊥) → NotNegative (cell t (at + 10))
  pub to : ((columns_at t at).kind ≡ 3 → ⊥) → NotNegative (cell t (at + 11))
  pub before : NotNegative (cell t (at + 12))
  pub lines : NotNegative (cell t (at + 13))
  pub name : NotNegative (cell t (at + 14))
  pub name_length : NotNegative (cell t (at + 15))
  pub label : NotNegative (cell t (at + 16))
  pub label_length : NotNegative (cell t (at + 17))
  pub use_code : NotNegative (cell t (at + 18))
  pub filter : NotNegative (cell t (at + 19))

-- line j is one of row i's
pub record LineOf (t : List ℤ) (j i : ℕ) : Type 0 where
  pub row : i < rows_of t
  pub from : lines_before t i ≤ j
  pub to : j < lines_before t i + lines_at t i

-- a line's four numbers, of which the value may be negative in a quantity alone
pub record LineSigns (t : List ℤ) (j : ℕ) : Type 0 where
  pub row : ℕ
  pub of_row : LineOf t j row
  pub value : ((columns_of t row).kind ≡ 3 → ⊥) → NotNegative (cell t (line_base (rows_of t) j))
  pub special : NotNegative (cell t (line_base (rows_of t) j + 1))
  pub text : NotNegative (cell t (line_base (rows_of t) j + 2))
  pub text_length : NotNegative (cell t (line_base (rows_of t) j + 3))

-- NO NUMBER OF A WELL-FORMED TABLE IS NEGATIVE but a quantity's from, to and line values
pub record TableSigns (t : List ℤ) : Type 0 where
  pub header : HeaderSigns t
  pub row : (i : ℕ) → i < rows_of t → RowSigns t (row_base i)
  pub line : (j : ℕ) → j < (header_of t).lines → LineSigns t j
