-- "The point is required in data if any number of the block has one .. The value width w: digits of the largest category for SINGLE and
-- for each spread subfield; the largest category itself for a bitstring; SIZE for CHARACTER; 1 for LOGICAL. For QUANTITY, the longest of
-- the range ends and values": of all the numbers of a block, the one that takes most.
use Rattle.std.specs.Prelude.{Bool, true, false, cond, ◌&&◌, ◌||◌, List, [], ◌∷◌, ◌++◌, map, ℕ, ◌+◌, ◌-◌, ◌/◌, max, eqb, ℤ}
use Rattle.std.proofs.Math.Option.{Option, none, some, get_or}
use Rattle.cells.specs.rule.Cell.{number_of}
use Rattle.layout.specs.rule.Row.{spread_of}
use Rattle.layout.specs.declared.Kind.{Kind}
use Rattle.layout.specs.declared.Kind.TheVariants.{Single, Multiple, Quantity, Character, Logical}
use Rattle.widths.specs.rule.Width.{need}
use Rattle.survey.specs.rule.Survey.{Amount, Range, Block, Spread, Figure, Content, single, multiple, quantity, character}
use Rattle.survey.specs.rule.Survey.{logical, Variable}

abbrev pub flag : Bool → ℕ
flag true = 1
flag false = 0

-- whether one of a list passes
unfoldable pub some_of : {A : Type 0} → (A → Bool) → List A → Bool
some_of f [] = false
some_of f (a ∷ l) = f a || some_of f l

-- whether each of a list passes
unfoldable pub each_of : {A : Type 0} → (A → Bool) → List A → Bool
each_of f [] = true
each_of f (a ∷ l) = f a && each_of f l

-- ---- the numbers of a block: its range ends, then its values
abbrev pub range_ends : Option Range → List Amount
range_ends none = []
range_ends (some r) = r.from ∷ r.to ∷ []

unfoldable pub amounts : Block → List Amount
amounts b = range_ends b.range ++ map (λ l. l.value) b.lines

-- "scaled by a power of ten; `-0` is 0"
abbrev pub scaled : Amount → ℤ
scaled a = number_of a.minus a.size

-- "one count of decimals throughout a block"
abbrev pub decimals_in : List Amount → ℕ
decimals_in [] = 0
decimals_in (a ∷ l) = a.decimals

-- "written with no digit before the point": a point, and no digit of the whole part
abbrev pub bare : Amount → Bool
bare a = a.point && eqb a.whole 0

-- the point's code: 0 where no number of the block has a point; "a block in which every number is written with no digit before the point
-- gets point code 2"; else 1
abbrev pub point_in : List Amount → ℕ
point_in l = cond (some_of (λ a. a.point) l) (cond (each_of bare l) 2 1) 0

-- ---- a variable
abbrev pub no_block : Block
no_block = record { range = none; lines = [] }

abbrev pub block_in : Content → Block
block_in (single b) = b
block_in (multiple s b) = b
block_in (quantity b) = b
block_in (character n) = no_block
block_in logical = no_block

-- a position without TO is one byte
abbrev pub finish_in : Variable → ℕ
finish_in v = (get_or v.finish v.start).value

abbrev pub room_in : Variable → ℕ
room_in v = finish_in v + 1 - v.start.value

-- subfields, and their width: "without OF, n must divide the position's width exactly"
abbrev pub parts_of : Option Spread → ℕ
parts_of none = 0
parts_of (some s) = s.count.value

abbrev pub part_width : ℕ → Figure → Option Figure → ℕ
part_width room n none = room / n.value
part_width room n (some w) = w.value

abbrev pub subwidth_of : ℕ → Option Spread → ℕ
subwidth_of room none = 0
subwidth_of room (some s) = part_width room s.count s.width

unfoldable pub kind_in : ℕ → Content → Kind
kind_in room (single b) = Single
kind_in room (multiple s b) = Multiple (spread_of (parts_of s) (subwidth_of room s))
kind_in room (quantity b) = Quantity (record { decimals = decimals_in (amounts b); point = point_in (amounts b) })
kind_in room (character n) = Character
kind_in room logical = Logical

-- ---- w
unfoldable pub widest_amount : Kind → List Amount → ℕ
widest_amount k [] = 0
widest_amount k (a ∷ l) = max (need k (scaled a)) (widest_amount k l)

unfoldable pub width_in : ℕ → Content → ℕ
width_in room (single b) = widest_amount (kind_in room (single b)) (amounts b)
width_in room (multiple s b) = widest_amount (kind_in room (multiple s b)) (amounts b)
width_in room (quantity b) = widest_amount (kind_in room (quantity b)) (amounts b)
width_in room (character n) = n.value
width_in room logical = 1
