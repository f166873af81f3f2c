-- What the code keeps of the lines of a block: their numbers in the room that it is lent, four a line, those of the block from line
-- `first` to before `last`; and a mark for each, by which a number that no line says is mostly known at once.
use Rattle.std.specs.Prelude.{ℕ, ◌+◌, ◌*◌, ◌-◌, ◌%◌, ◌≤◌, ◌<◌, ◌≡◌, Bool, true, false, List, ℤ, get_or, set, Ok, Err}
use Rattle.cells.specs.rule.Cell.{cell, signed_of, pasted}
use Rattle.layout.specs.rule.Layout.{line_size, most_lines}
use Rattle.tokens.specs.declared.Fault.{Fault}
use Rattle.tokens.specs.rule.Gap.{fault, OrFault}
use Rattle.values.specs.declared.Block.{Block}
use Rattle.values.specs.declared.Said.{Said}
use Rattle.values.specs.declared.Turn.{Turn}
use Rattle.values.specs.declared.Turn.TheVariants as turn
use Rattle.values.specs.Line.{line_rest, judge_line, grown_by, line_cells, more_of}
use Rattle.tokens.specs.declared.Value.{Value}

-- ---- a room of any length
-- for the lines so far, and for one more unless they are the most
pub record Spare (n last : ℕ) : Type 0 where
  pub so_far : line_size * last ≤ n
  pub one_more : last < most_lines → line_size * last + line_size ≤ n

-- whether a line more has no place, though it would be none too many: the room is then not that of the most lines
pub record Cramped (n last : ℕ) (b : Bool) : Type 0 where
  pub tight : b ≡ true → n < line_size * most_lines
  pub spare : b ≡ false → Spare n last

-- what a reader says whose room is too small: 0, the number of no refusal
abbrev pub short : Fault
short = fault 0 0

-- a claim of what was read; or its room lacks places, and that was said
pub data Unless (said lacks claim : Type 0) : Type 0 where
  holds : claim → Unless said lacks claim
  small : said → lacks → Unless said lacks claim

-- ---- the lines in it
-- the number that line i of the block says
unfoldable pub room_at : List ℤ → ℕ → ℕ → ℤ
room_at room first i = cell room (line_size * (first + i))

-- where a number leaves its mark: equal numbers at the same place, and few others there too, since 16,381 is a prime
unfoldable pub slot_of : ℤ → ℕ
slot_of z = (signed_of z).size % 16381

-- n lines, which say f 0, f 1, .., have left the mark `stamp`
pub record Marked (f : ℕ → ℤ) (n stamp : ℕ) (marks : List ℕ) : Type 0 where
  pub left : (i : ℕ) → i < n → get_or marks (slot_of (f i)) 0 ≡ stamp

-- a line's own numbers fit a table's
pub record storable (s : Said) : Type 0 where
  pub special : s.special ≤ 1000000000000000
  pub place : s.text.place ≤ 1000000000000000
  pub length : s.text.length ≤ 1000000000000000

-- ---- a line that was judged: what follows it, the room and the marks; a line that stands goes in behind the others
abbrev pub judged_turn : List ℕ → Block → Said → OrFault ℤ → Turn
judged_turn d b s (Ok z) = more_of d (grown_by b s.value) s.next
judged_turn d b s (Err f) = turn.Not f

abbrev pub judged_room : List ℤ → ℕ → Said → OrFault ℤ → List ℤ
judged_room room last s (Ok z) = pasted room (line_size * last) (line_cells s)
judged_room room last s (Err f) = room

abbrev pub judged_marks : List ℕ → ℕ → OrFault ℤ → List ℕ
judged_marks marks stamp (Ok z) = set marks (slot_of z) stamp
judged_marks marks stamp (Err f) = marks

-- where the reader of lines stands: the value of the line that comes, what the block has said, how many lines there are in all, and
-- the room
pub record Standing : Type 0 where
  pub amount : OrFault Value
  pub block : Block
  pub last : ℕ
  pub room : List ℤ

abbrev pub stand_at : OrFault Value → Block → ℕ → List ℤ → Standing
stand_at a b n r = record { amount = a; block = b; last = n; room = r }

-- how the line s is judged there
abbrev pub judged_at : Bool → ℕ → Standing → Said → OrFault ℤ
judged_at quantity first l s = judge_line (room_at l.room first) (l.last - first) first quantity l.block s.value

abbrev pub read_turn : List ℕ → Bool → ℕ → Standing → OrFault Said → Turn
read_turn d quantity first l (Ok s) = judged_turn d l.block s (judged_at quantity first l s)
read_turn d quantity first l (Err f) = turn.Not f

abbrev pub read_room : Bool → ℕ → Standing → OrFault Said → List ℤ
read_room quantity first l (Ok s) = judged_room l.room l.last s (judged_at quantity first l s)
read_room quantity first l (Err f) = l.room

abbrev pub read_marks : Bool → ℕ → Standing → List ℕ → ℕ → OrFault Said → List ℕ
read_marks quantity first l marks stamp (Ok s) = judged_marks marks stamp (judged_at quantity first l s)
read_marks quantity first l marks stamp (Err f) = marks

-- one line: read, judged, and what follows it
unfoldable pub turn_of : List ℕ → Bool → ℕ → Standing → Turn
turn_of d quantity first l = read_turn d quantity first l (line_rest d l.amount)

unfoldable pub room_after : List ℕ → Bool → ℕ → Standing → List ℤ
room_after d quantity first l = read_room quantity first l (line_rest d l.amount)

unfoldable pub marks_after : List ℕ → Bool → ℕ → Standing → List ℕ → ℕ → List ℕ
marks_after d quantity first l marks stamp = read_marks quantity first l marks stamp (line_rest d l.amount)
