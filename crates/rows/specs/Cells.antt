-- What follows from rule/Cells.antt, and what the code keeps.
use Rattle.std.specs.Prelude.{ℕ, ◌≤◌}
use Rattle.layout.specs.declared.Columns.{Columns}
use Rattle.layout.specs.declared.Header.{Header}

-- the column of a name's place among them
abbrev pub name_column : ℕ
name_column = 14

-- every count is one that a number of a table holds
abbrev limit : ℕ
limit = 1000000000000000

pub record SmallRow (c : Columns) : Type 0 where
  pub ident : c.ident ≤ limit
  pub kind : c.kind ≤ limit
  pub start : c.start ≤ limit
  pub finish : c.finish ≤ limit
  pub width : c.width ≤ limit
  pub decimals : c.decimals ≤ limit
  pub point : c.point ≤ limit
  pub subfields : c.subfields ≤ limit
  pub subwidth : c.subwidth ≤ limit
  pub range : c.range ≤ limit
  pub before : c.before ≤ limit
  pub lines : c.lines ≤ limit
  pub name : c.name ≤ limit
  pub name_len : c.name_len ≤ limit
  pub label : c.label ≤ limit
  pub label_len : c.label_len ≤ limit
  pub usage : c.usage ≤ limit
  pub filter : c.filter ≤ limit

pub record SmallHeader (h : Header) : Type 0 where
  pub mark : h.mark ≤ limit
  pub rows : h.rows ≤ limit
  pub lines : h.lines ≤ limit
  pub length : h.length ≤ limit
  pub rows_at : h.rows_at ≤ limit
  pub lines_at : h.lines_at ≤ limit
