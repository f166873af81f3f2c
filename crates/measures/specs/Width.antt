-- THE CODE'S BOOKS, which contracts inside the library name; crate `bridge` proves them equal to the rule of crate `reading`.
-- A variable as the columns of its row, w among them. "The value width w: digits of the largest category for SINGLE and for each
-- spread subfield; the largest category itself for a bitstring; SIZE for CHARACTER; 1 for LOGICAL. For QUANTITY, the longest of the
-- range ends and values." Its position must hold w, else it is 7 at the first POSITION number.
use Rattle.std.specs.Prelude.{Bool, true, false, cond, ℕ, ◌-◌, max, ◌+◌, ◌*◌, ◌≤◌, ℤ, ◌≡◌, List, length, Ok, Err}
use Rattle.below.specs.rule.Below.{max_below}
use Rattle.layout.specs.rule.Row.{kind_of, row_of}
use Rattle.layout.specs.declared.Columns.{Columns}
use Rattle.layout.specs.declared.Row.{Row}
use Rattle.layout.specs.declared.Kind.{Kind}
use Rattle.layout.specs.declared.Kind.TheVariants.{Single, Multiple, Quantity, Character, Logical}
use Rattle.widths.specs.rule.Width.{need}
use Rattle.sound.specs.rule.Sound.{range_width, range_good, values_fit, room_good}
use Rattle.variables.specs.declared.Head.{Head}
use Rattle.variables.specs.declared.Rest.{Rest}
use Rattle.strides.specs.rule.Stride.{stride_at}
use Rattle.layout.specs.rule.Layout.{most_lines, line_size}
use Rattle.widths.specs.Width.{FewDecimals}
use Rattle.sound.specs.Block.{Subfielded}
use Rattle.tokens.specs.rule.Gap.{fault, OrFault}

unfoldable pub flag_of : Bool → ℕ
flag_of true = 1
flag_of false = 0

-- the columns of a variable but for its width: `before` lines stand before its own, and r.last before those of the next
unfoldable pub plain_columns : Head → Rest → ℕ → Columns
plain_columns h r before = record {
  ident = h.ident;
  kind = h.kind;
  start = h.start;
  finish = h.finish;
  width = 0;
  decimals = r.block.decimals;
  point = r.block.point;
  subfields = r.subfields;
  subwidth = r.subwidth;
  range = flag_of r.block.ranged;
  from = r.block.from;
  to = r.block.to;
  before = before;
  lines = r.last - before;
  name = h.name.place;
  name_len = h.name.length;
  label = h.label.place;
  label_len = h.label.length;
  usage = 0;
  filter = 0;
}

-- ---- w. The lines of the row say f 0, f 1, ..
-- the widest of n numbers
unfoldable pub lines_width : Kind → (ℕ → ℤ) → ℕ → ℕ
lines_width k f n = max_below n (λ i. need k (f i))

-- the widest of the range ends and the values
unfoldable pub widest_of : Row → (ℕ → ℤ) → ℕ
widest_of r f = max (range_width r) (lines_width r.kind f r.lines)

unfoldable pub width_of : Kind → Row → (ℕ → ℤ) → ℕ → ℕ
width_of Single r f size = widest_of r f
width_of (Multiple s) r f size = widest_of r f
width_of (Quantity q) r f size = widest_of r f
width_of Character r f size = size
width_of Logical r f size = 1

unfoldable pub widened : ℕ → Columns → Columns
widened w c = record {
  ident = c.ident;
  kind = c.kind;
  start = c.start;
  finish = c.finish;
  width = w;
  decimals = c.decimals;
  point = c.point;
  subfields = c.subfields;
  subwidth = c.subwidth;
  range = c.range;
  from = c.from;
  to = c.to;
  before = c.before;
  lines = c.lines;
  name = c.name;
  name_len = c.name_len;
  label = c.label;
  label_len = c.label_len;
  usage = c.usage;
  filter = c.filter;
}

-- all columns
unfoldable pub full_columns : (ℕ → ℤ) → Head → Rest → ℕ → Columns
full_columns f h r before =
    let c = plain_columns h r before in
    widened (width_of (kind_of c) (row_of c) f r.size) c

-- "POSITION must hold w (for a spread, n times the declared subfield width, itself at least w), else it is too narrow"
unfoldable pub measured : (ℕ → ℤ) → Head → Rest → ℕ → OrFault Columns
measured f h r before =
    let c = full_columns f h r before in
    cond (room_good (kind_of c) (row_of c)) (Ok c) (Err (fault 7 h.place))

-- ---- what is known of a variable before it is measured
-- the number of line k of those behind the first `before` in the room
abbrev pub number_in : List ℤ → ℕ → ℕ → ℤ
number_in room before k = stride_at room (line_size * before) line_size k

-- a row's lines stand in the room, and lie within the limits of its kind
pub record Ready (room : List ℤ) (r : Row) : Type 0 where
  pub few : r.before + r.lines ≤ most_lines
  pub stand : line_size * (r.before + r.lines) ≤ length room
  pub decimals : FewDecimals r.kind
  pub fits : values_fit r.kind (number_in room r.before) r.lines ≡ true

pub record Measurable (room : List ℤ) (h : Head) (r : Rest) (before : ℕ) : Type 0 where
  pub rises : before ≤ r.last
  pub ready : Ready room (row_of (plain_columns h r before))
  pub range : range_good (row_of (plain_columns h r before)) ≡ true
  pub from_one : 1 ≤ h.start
  pub ordered : h.start ≤ h.finish
  pub low : h.finish ≤ 16384
  pub subfields : Subfielded (kind_of (plain_columns h r before))
  pub size : r.size ≤ 4096
