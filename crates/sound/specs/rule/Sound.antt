-- "A table is well formed when ..": each clause of document 01 under a name of its own. A negative number counts as more than every
-- limit (`count_of`), so that each limit below also says "no number of it is negative".
use Rattle.std.specs.Prelude.{◌≡◌, Bool, cond, not, ◌&&◌, ◌||◌, List, ℕ, ◌+◌, ◌*◌, max, eqb, leb, ℤ, pos, length}
use Rattle.std.specs.Bool.{beq}
use Rattle.std.specs.Int.Signed.{le_z}
use Rattle.ascii.specs.rule.Class.{within}
use Rattle.below.specs.rule.Below.{◌and◌, all_below, sum_below, max_below}
use Rattle.cells.specs.rule.Cell.{eq_z}
use Rattle.strides.specs.rule.Stride.{stride_at, all_differ}
use Rattle.layout.specs.rule.Layout.{mark, mark_xml, most_rows, most_lines, header_size, row_size}
use Rattle.layout.specs.rule.Layout.{line_size, row_base, lines_base, line_base, header_of, columns_at, line_at}
use Rattle.layout.specs.rule.Row.{row_of}
use Rattle.layout.specs.declared.Header.{Header}
use Rattle.layout.specs.declared.Columns.{Columns}
use Rattle.layout.specs.declared.Line.{Line}
use Rattle.layout.specs.declared.Row.{Row}
use Rattle.layout.specs.declared.Spread.TheVariants.{Bits, Fields}
use Rattle.layout.specs.declared.Kind.{Kind}
use Rattle.layout.specs.declared.Kind.TheVariants.{Single, Multiple, Quantity, Character, Logical}
use Rattle.widths.specs.rule.Width.{need, fits_kind}
use Rattle.uses.specs.rule.Uses.{kind_good}

-- ---- a row's columns, one by one
-- "types are 1 to 5"
abbrev pub type_known : Columns → Bool
type_known c = within 1 5 c.kind

-- "decimals 0 to 9"
abbrev pub decimals_few : Columns → Bool
decimals_few c = leb c.decimals 9

-- "flags 0 or 1": whether there is a range
abbrev pub range_flag : Columns → Bool
range_flag c = leb c.range 1

-- the point's code: 0 none, 1 a point, 2 a point that numbers may begin with
abbrev pub point_known : Columns → Bool
point_known c = leb c.point 2

-- "lacked columns 0": only a quantity has decimals and a point, only a multiple subfields; the types from 4 on have no values; and
-- without a range from and to are 0
abbrev pub lacked_zero : Columns → Bool
lacked_zero c =
    (eqb c.kind 3 || (eqb c.decimals 0 && eqb c.point 0))
    && (eqb c.kind 2 || (eqb c.subfields 0 && eqb c.subwidth 0))
    && (leb c.kind 3 || (eqb c.range 0 && eqb c.lines 0))

abbrev pub range_lacked : Columns → Bool
range_lacked c = eqb c.range 1 || (eq_z c.from (pos 0) && eq_z c.to (pos 0))

-- "point 1 where decimals are above 0", or 2; and "point code 2 needs decimals above 0"
abbrev pub point_given : Columns → Bool
point_given c = eqb c.decimals 0 || leb 1 c.point

abbrev pub shares_given : Columns → Bool
shares_given c = leb c.point 1 || leb 1 c.decimals

-- "a range or a line where the type has VALUES"
abbrev pub values_given : Columns → Bool
values_given c = leb 4 c.kind || (eqb c.range 1 || leb 1 c.lines)

-- refusal 5 of one ident: not 0, at most four digits
abbrev pub ident_good : Columns → Bool
ident_good c = within 1 9999 c.ident

-- refusals 7 and 8 of a position: start not 0, finish not below it, locations up to 16,384
abbrev pub position_good : Columns → Bool
position_good c = leb 1 c.start && leb c.start c.finish && leb c.finish 16384

-- refusal 7 of a spread: subfields have a width
abbrev pub subfields_good : Columns → Bool
subfields_good c = beq (eqb c.subfields 0) (eqb c.subwidth 0)

-- "text places and lengths lie in 0 to 1,048,576"
abbrev pub texts_good : Columns → Bool
texts_good c =
    leb c.name 1048576 && leb c.name_len 1048576 && leb c.label 1048576 && leb c.label_len 1048576

unfoldable pub counts_good : Columns → Bool
counts_good c =
    type_known c and decimals_few c and range_flag c and point_known c and lacked_zero c and point_given c and shares_given c
    and values_given c

unfoldable pub places_good : Columns → Bool
places_good c = ident_good c and position_good c and subfields_good c and texts_good c

-- ---- a row's values
-- refusals 6 and 8 of a range: not reversed, both ends within the limits of their kind
abbrev pub range_good : Row → Bool
range_good r = not r.range || (le_z r.from r.to && (fits_kind r.kind r.from && fits_kind r.kind r.to))

-- the value of line k of those that start after b lines, in a table of v rows
abbrev pub value_at : List ℤ → ℕ → ℕ → ℕ → ℤ
value_at t v b k = stride_at t (line_base v b) line_size k

-- a line's flag, text place and length
abbrev pub line_plain : Line → Bool
line_plain l = leb l.special 1 && leb l.text 1048576 && leb l.text_len 1048576

abbrev pub plain_at : List ℤ → ℕ → ℕ → ℕ → Bool
plain_at t v b k = line_plain (line_at t (line_base v (b + k)))

unfoldable pub lines_plain : List ℤ → ℕ → ℕ → ℕ → Bool
lines_plain t v b n = all_below n (plain_at t v b)

-- refusals 6 and 8 of lines: values within the limits of their kind
unfoldable pub values_fit : Kind → (ℕ → ℤ) → ℕ → Bool
values_fit k f n = all_below n (λ j. fits_kind k (f j))

-- ---- w, recomputed
-- the wider of the range ends
unfoldable pub range_width : Row → ℕ
range_width r = cond r.range (max (need r.kind r.from) (need r.kind r.to)) 0

-- the widest of the range ends and values
unfoldable pub widest : List ℤ → ℕ → Row → ℕ
widest t v r = max (range_width r) (max_below r.lines (λ k. need r.kind (value_at t v r.before k)))

-- SIZE for CHARACTER, 1 to 4,096; 1 for LOGICAL; else the widest number
unfoldable pub width_good : Kind → ℕ → ℕ → Bool
width_good Single w m = eqb w m
width_good (Multiple s) w m = eqb w m
width_good (Quantity f) w m = eqb w m
width_good Character w m = within 1 4096 w
width_good Logical w m = eqb w 1

-- "POSITION must hold w (for a spread, n times the declared subfield width, itself at least w)"
abbrev pub holds_width : Row → Bool
holds_width r = leb (r.start + r.width) (r.finish + 1)

unfoldable pub room_good : Kind → Row → Bool
room_good (Multiple (Fields n b)) r = leb r.width b && leb (r.start + n * b) (r.finish + 1)
room_good (Multiple Bits) r = holds_width r
room_good Single r = holds_width r
room_good (Quantity f) r = holds_width r
room_good Character r = holds_width r
room_good Logical r = holds_width r

-- refusal 6 of lines: no value repeated
unfoldable pub lines_good : List ℤ → ℕ → Row → Bool
lines_good t v r =
    lines_plain t v r.before r.lines
    and values_fit r.kind (value_at t v r.before) r.lines
    and all_differ (value_at t v r.before) r.lines

unfoldable pub values_good : List ℤ → ℕ → Row → Bool
values_good t v r = range_good r and lines_good t v r

unfoldable pub widths_good : List ℤ → ℕ → Row → Bool
widths_good t v r = width_good r.kind r.width (widest t v r) and room_good r.kind r

-- ---- a row among others: `before` lines stand before its own, all within the e lines of the table
unfoldable pub columns_good : ℕ → ℕ → Columns → Bool
columns_good e before c =
    counts_good c and places_good c and range_lacked c and eqb c.before before and leb (before + c.lines) e

unfoldable pub row_good : List ℤ → ℕ → ℕ → ℕ → Columns → Bool
row_good t v e before c = columns_good e before c and (values_good t v (row_of c) and widths_good t v (row_of c))

abbrev pub columns_of : List ℤ → ℕ → Columns
columns_of t i = columns_at t (row_base i)

abbrev pub lines_at : List ℤ → ℕ → ℕ
lines_at t i = (columns_of t i).lines

abbrev pub finish_at : List ℤ → ℕ → ℕ
finish_at t i = (columns_of t i).finish

-- the lines before row i, the highest finish of v rows
abbrev pub lines_before : List ℤ → ℕ → ℕ
lines_before t i = sum_below i (lines_at t)

abbrev pub highest_finish : List ℤ → ℕ → ℕ
highest_finish t v = max_below v (finish_at t)

abbrev pub good_at : List ℤ → ℕ → ℕ → ℕ → Bool
good_at t v e i = row_good t v e (lines_before t i) (columns_of t i)

-- refusal 5 of two idents: no two are equal
unfoldable pub idents_differ : List ℤ → ℕ → Bool
idents_differ t v = all_differ (stride_at t header_size row_size) v

-- ---- the header
-- the first number is 11 for a 1.1 definition, 12 for one in XML
abbrev pub mark_known : Header → Bool
mark_known h = eqb h.mark mark || eqb h.mark mark_xml

abbrev pub head_counts : Header → Bool
head_counts h = mark_known h && leb 1 h.rows && leb h.rows most_rows && leb h.lines most_lines

abbrev pub head_sums : Header → ℕ → Bool
head_sums h n =
    eqb h.rows_at header_size && eqb h.lines_at (lines_base h.rows) && leb (line_base h.rows h.lines) n

-- every row good, the lines added up, L the highest finish
unfoldable pub rows_good : List ℤ → Header → Bool
rows_good t h =
    all_below h.rows (good_at t h.rows h.lines)
    and eqb (lines_before t h.rows) h.lines
    and eqb (highest_finish t h.rows) h.length

-- THE TEST behind refusal 20
unfoldable pub well_formed : List ℤ → Bool
well_formed t =
    head_counts (header_of t) and head_sums (header_of t) (length t) and rows_good t (header_of t)
    and idents_differ t (header_of t).rows and kind_good t (header_of t)

-- THE PROMISE of the call that tests a table
pub record TableTested (t : List ℤ) (good : Bool) : Type 0 where
  pub says : good ≡ well_formed t
