-- A VARIABLE OF THE RULE IN THE CODE'S BOOKS: the structs of the 1.1 road that the numbers of a variable fill, by whatever road it was
-- read. Places that only a reader goes by are 0 here. `columns_same` and `Holds-same`: its row, and whether its position holds its width.
use Rattle.std.specs.Prelude.{◌≡◌, Bool, true, false, cond, eqb, length}
use Rattle.std.proofs.Math.Path.{refl}
use Rattle.std.proofs.Common.{◌∙◌}
use mathlib.Core.List.{List, [], ◌∷◌, ◌++◌, map}
use Rattle.std.proofs.Math.Option.{Option, none, some, get_or}
use Prim.Native.Nat.{ℕ, zero, suc, ◌+◌, ◌-◌, max}
use native.Mathlib.Omega.{arith}
use Rattle.below.specs.rule.Below.{max_below}
use Rattle.layout.specs.rule.Row.{spread_of, kind_of, row_of}
use Rattle.layout.specs.declared.Kind.{Kind}
use Rattle.layout.specs.declared.Kind.TheVariants as kind
use Rattle.widths.specs.rule.Width.{need}
use Rattle.sound.specs.rule.Sound.{range_width}
use Rattle.tokens.specs.declared.Value.{Value}
use Rattle.tokens.specs.declared.Quoted.{Quoted}
use Rattle.values.specs.declared.Block as books
use Rattle.values.specs.declared.Said.{Said}
use Rattle.values.specs.Value.{scaled_of}
use Rattle.values.specs.Line.{numbers, number_at}
use Rattle.values.specs.Line as lines
use Rattle.variables.specs.declared.Head.{Head}
use Rattle.variables.specs.Rest.{Telling}
use Rattle.measures.specs.Width.{flag_of, plain_columns, lines_width, widest_of, width_of, widened, full_columns}
use Rattle.measures.specs.Survey.{counted_in, columns_in}
use Rattle.measures.specs.Survey as book
use Rattle.survey.specs.rule.Survey.{Amount, KeptText, Range, Line, Block, Content, single, multiple, quantity, character, logical}
use Rattle.survey.specs.rule.Survey.{Figure, Variable}
use Rattle.survey.specs.rule.Width.{flag, some_of, range_ends, amounts, decimals_in, point_in, parts_of, block_in, finish_in, room_in}
use Rattle.survey.specs.rule.Width.{subwidth_of, kind_in, widest_amount, width_in}
use Rattle.survey.specs.rule.Table.{ranged, from_of, to_of, type_of, spread_in, variable_columns, line_cells, cells_of}

-- ---- values, lines, blocks
abbrev pub value_as : Amount → Value
value_as a = record {
  minus = a.minus;
  size = a.size;
  whole = a.whole;
  decimals = a.decimals;
  point = a.point;
  formed = a.formed;
  place = a.place;
  first = 0;
  last = 0;
  next = 0;
}

abbrev pub quoted_as : KeptText → ℕ → Quoted
quoted_as t n = record { place = t.place; length = t.length; next = n }

abbrev pub said_as : Line → Said
said_as l = record { value = value_as l.value; text = quoted_as l.text 0; special = flag l.special; next = 0 }

unfoldable pub saids : List Line → List Said
saids [] = []
saids (x ∷ l) = said_as x ∷ saids l

abbrev pub is_ranged : Option Range → Bool
is_ranged none = false
is_ranged (some r) = true

abbrev pub block_as : Block → books.Block
block_as b = record {
  ranged = is_ranged b.range;
  from = from_of b.range;
  to = to_of b.range;
  known = some_of (λ (a : Amount). true) (amounts b);
  decimals = decimals_in (amounts b);
  point = point_in (amounts b);
}

-- ---- a variable
abbrev pub size_in : Content → ℕ
size_in (single b) = 0
size_in (multiple s b) = 0
size_in (quantity b) = 0
size_in (character n) = n.value
size_in logical = 0

-- so many subfields of such a width
abbrev pub telling_with : ℕ → ℕ → Content → Telling
telling_with c w t = record {
  block = block_as (block_in t);
  lines = saids (block_in t).lines;
  subfields = c;
  subwidth = w;
  size = size_in t;
  next = 0;
}

-- i and j stand behind its texts
abbrev pub head_with : ℕ → ℕ → Variable → Head
head_with i j v = record {
  ident = v.ident.value;
  name = quoted_as v.name i;
  label = quoted_as v.label j;
  kind = type_of v.content;
  start = v.start.value;
  finish = finish_in v;
  place = v.start.place;
  next = 0;
}

abbrev pub book_with : ℕ → ℕ → ℕ → ℕ → Variable → book.Variable
book_with i j c w v = record { head = head_with i j v; rest = telling_with c w v.content }

abbrev pub book_of : Variable → book.Variable
book_of v = book_with 0 0 (parts_of (spread_in v.content)) (subwidth_of (room_in v) (spread_in v.content)) v

-- ---- lines
pub saids_count : (l : List Line) → length (saids l) ≡ length l
unfolding saids
saids_count [] = refl
saids_count (x ∷ l) = rw (saids_count l)

pub saids_cells : (l : List Line) → lines.cells_of (saids l) ≡ cells_of l
unfolding saids lines.cells_of cells_of lines.line_cells line_cells scaled_of
saids_cells [] = refl
saids_cells (x ∷ l) = rw (saids_cells l)

pub saids_more : (l : List Line) (x : Line) → saids (l ++ x ∷ []) ≡ saids l ++ said_as x ∷ []
unfolding saids
saids_more [] x = refl
saids_more (y ∷ l) x = rw (saids_more l x)

-- ---- w
max_first : (n : ℕ) (f : ℕ → ℕ) → max_below (suc n) f ≡ max (f 0) (max_below n (λ i. f (suc i)))
unfolding max_below
max_first zero f = omega arith
max_first (suc n) f = rw (max_first n f) (omega arith)

module _ (k : Kind) where
  lines_widest : (l : List Line) → max_below (length (saids l)) (λ i. need k (number_at (saids l) i))
      ≡ widest_amount k (map (λ x. x.value) l)
  unfolding saids number_at numbers widest_amount max_below scaled_of
  lines_widest [] = refl
  lines_widest (x ∷ l) = max_first (length (saids l)) (λ i. need k (number_at (saids (x ∷ l)) i)) ∙ rw (lines_widest l)

  block_widest : (b : Block)
      → max (cond (eqb (flag_of (is_ranged b.range)) 1) (max (need k (from_of b.range)) (need k (to_of b.range))) 0)
      (max_below (length (saids b.lines)) (λ i. need k (number_at (saids b.lines) i))) ≡ widest_amount k (amounts b)
  unfolding amounts widest_amount flag_of
  block_widest b = rw (lines_widest b.lines) (by b.range) where
    by : (o : Option Range)
        → max (cond (eqb (flag_of (is_ranged o)) 1) (max (need k (from_of o)) (need k (to_of o))) 0)
        (widest_amount k (map (λ x. x.value) b.lines))
        ≡ widest_amount k (range_ends o ++ map (λ x. x.value) b.lines)
    by none = omega arith
    by (some r) = omega arith

flags : (o : Option Range) → flag_of (is_ranged o) ≡ ranged o
unfolding flag_of
flags none = refl
flags (some r) = refl

-- ---- THE ROW
module _ (i j before : ℕ) where
  lines_left : (l : List Line) → before + length (saids l) - before ≡ length (saids l)
  lines_left l = omega arith

  content_columns : (n : Figure) (name label : KeptText) (p : Figure) (q : Option Figure) (t : Content)
      → columns_in before (book_with i j (parts_of (spread_in t)) (subwidth_of ((get_or q p).value + 1 - p.value) (spread_in t))
      (record { ident = n; name = name; label = label; start = p; finish = q; content = t }))
      ≡ variable_columns before (record { ident = n; name = name; label = label; start = p; finish = q; content = t })
  unfolding columns_in full_columns widened plain_columns counted_in variable_columns width_of width_in kind_in kind_of row_of widest_of
      lines_width
      range_width amounts some_of saids
  content_columns n name label p q (single b) =
      rw (lines_left b.lines) (rw (block_widest kind.Single b, flags b.range, saids_count b.lines))
  content_columns n name label p q (multiple s b) =
      rw (lines_left b.lines)
      (rw (
        block_widest (kind.Multiple (spread_of (parts_of s) (subwidth_of ((get_or q p).value + 1 - p.value) s))) b,
        flags b.range,
        saids_count b.lines,
      ))
  content_columns n name label p q (quantity b) =
      rw (lines_left b.lines)
      (rw (
        block_widest (kind.Quantity (record { decimals = decimals_in (amounts b); point = point_in (amounts b) })) b,
        flags b.range,
        saids_count b.lines,
      ))
  content_columns n name label p q (character c) = rw (lines_left [], flags none)
  content_columns n name label p q logical = rw (lines_left [], flags none)

  pub columns_with : (v : Variable)
      → columns_in before (book_with i j (parts_of (spread_in v.content)) (subwidth_of (room_in v) (spread_in v.content)) v)
      ≡ variable_columns before v
  columns_with v = content_columns v.ident v.name v.label v.start v.finish v.content

pub columns_same : (before : ℕ) (v : Variable) → columns_in before (book_of v) ≡ variable_columns before v
columns_same before v = columns_with 0 0 before v
