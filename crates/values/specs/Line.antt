-- THE CODE'S BOOKS, which contracts inside the library name; crate `bridge` proves them equal to the rule of crate `reading`.
-- A line is a value, a string, and SPECIAL or not. 6 where its form is wrong, its decimals differ from those before it in the block,
-- or an earlier line of the block says its number; 8 beyond its limit, or where 4,096 lines were read. Then follow notes, and another
-- line or END VALUES.
use Rattle.std.specs.Prelude.{ℕ, suc, ◌+◌, ◌-◌, ◌*◌, Bool, true, cond, not, ◌&&◌, List, [], ◌∷◌, ◌++◌, eqb, leb, ℤ, pos, length, ◌≡◌, Ok}
use Rattle.std.specs.Prelude.{Err}
use Rattle.below.specs.rule.Below.{any_below}
use Rattle.cells.specs.rule.Cell.{cell, eq_z, pasted}
use Rattle.scan.specs.rule.Loop.{Next, Again, Done, loop_of}
use Rattle.tokens.specs.declared.Fault.{Fault}
use Rattle.tokens.specs.declared.Choice.{Choice}
use Rattle.tokens.specs.declared.Choice.TheVariants.{Taken, Left}
use Rattle.tokens.specs.declared.Value.{Value}
use Rattle.tokens.specs.declared.Quoted.{Quoted}
use Rattle.tokens.specs.rule.Gap.{fault, OrFault}
use Rattle.tokens.specs.Gap.{gap_on}
use Rattle.tokens.specs.Token.{choice_of, word_on, value_here, past_value, string_on, past_string}
use Rattle.statements.specs.rule.Words.{SPECIAL, END, VALUES}
use Rattle.statements.specs.Note.{notes_on}
use Rattle.values.specs.Value.{form_of, large_of, scaled_of, point_of, points_of}
use Rattle.values.specs.declared.Block.{Block}
use Rattle.values.specs.declared.Said.{Said}
use Rattle.values.specs.declared.Turn.{Turn}
use Rattle.values.specs.declared.Turn.TheVariants as turn
use Rattle.layout.specs.rule.Layout.{line_size}
use Rattle.values.specs.declared.Listed.{Listed}
use Rattle.values.specs.declared.Listed.TheVariants as listed

-- ---- reading a line
abbrev pub valued : OrFault Value → (Value → OrFault Said) → OrFault Said
valued (Ok v) k = k v
valued (Err f) k = Err f

abbrev pub phrased : OrFault Quoted → (Quoted → OrFault Said) → OrFault Said
phrased (Ok q) k = k q
phrased (Err f) k = Err f

abbrev pub ended : OrFault ℕ → (ℕ → OrFault Said) → OrFault Said
ended (Ok n) k = k n
ended (Err f) k = Err f

-- the first 2 or 3 met
unfoldable pub said_of : OrFault Value → OrFault Quoted → ℕ → OrFault ℕ → OrFault Said
said_of a q special end = valued a λ v. phrased q λ t. ended end λ n. Ok (record { value = v; text = t; special = special; next = n })

abbrev pub special_or : OrFault Value → OrFault Quoted → OrFault ℕ → Choice → OrFault Said
special_or a q g (Taken m) = said_of a q 1 (Ok m)
special_or a q g Left = said_of a q 0 g

-- a line whose value is a
unfoldable pub line_rest : List ℕ → OrFault Value → OrFault Said
line_rest d a =
    let q = string_on d (past_value a) in
    let g = gap_on d (past_string q) in
    special_or a q g (choice_of d g SPECIAL)

-- ---- the numbers of lines
-- the number that a line says, and those of lines one after the other
abbrev pub number_on : Said → ℤ
number_on s = scaled_of s.value

unfoldable pub numbers : List Said → List ℤ
numbers [] = []
numbers (s ∷ l) = number_on s ∷ numbers l

-- that of line i, from 0
unfoldable pub number_at : List Said → ℕ → ℤ
number_at l i = cell (numbers l) i

-- ---- judging a line. Before its block stand `first` lines; the block has n lines so far, which say f 0, f 1, ..
unfoldable pub repeated_in : (ℕ → ℤ) → ℕ → ℤ → Bool
repeated_in f n z = any_below n (λ i. eq_z (f i) z)

unfoldable pub line_fault : Bool → Block → Value → ℕ
line_fault quantity b v =
    cond (form_of quantity v)
    (cond (b.known && not (eqb v.decimals b.decimals)) 6
    (cond (large_of quantity v) 8 0))
    6

-- a value too large repeats none, so that it may be judged before the repeats
unfoldable pub judge_line : (ℕ → ℤ) → ℕ → ℕ → Bool → Block → Value → OrFault ℤ
judge_line f n first quantity b v =
    cond (eqb (line_fault quantity b v) 0)
    (cond (repeated_in f n (scaled_of v)) (Err (fault 6 v.place))
    (cond (leb 4096 (first + n)) (Err (fault 8 v.place))
    (Ok (scaled_of v))))
    (Err (fault (line_fault quantity b v) v.place))

-- ---- what a line adds
-- the point's code: that of the first number is its own
abbrev pub grown_point : Block → Value → ℕ
grown_point b v = cond b.known (points_of b.point (point_of v)) (point_of v)

unfoldable pub grown_by : Block → Value → Block
grown_by b v = record {
  ranged = b.ranged;
  from = b.from;
  to = b.to;
  known = true;
  decimals = v.decimals;
  point = grown_point b v;
}

-- the four numbers of a line in a table, and those of lines one after the other
unfoldable pub line_cells : Said → List ℤ
line_cells s = number_on s ∷ pos s.special ∷ pos s.text.place ∷ pos s.text.length ∷ []

unfoldable pub cells_of : List Said → List ℤ
cells_of [] = []
cells_of (s ∷ l) = line_cells s ++ cells_of l

-- ---- what follows a line
unfoldable pub end_of : Block → OrFault ℕ → Turn
end_of b (Ok n) = turn.Over b n
end_of b (Err f) = turn.Not f

abbrev pub end_or : List ℕ → Block → OrFault ℕ → Choice → Turn
end_or d b t (Taken m) = end_of b (word_on d (Ok m) VALUES)
end_or d b t Left = turn.More (value_here d t) b

unfoldable pub more_of : List ℕ → Block → ℕ → Turn
more_of d b n =
    let t = notes_on d (Ok n) in
    end_or d b t (choice_of d t END)

-- ---- lines one after the other
-- what VALUES give: the block, its lines in the order of the file, and the place after END VALUES; or a refusal
pub data Given : Type 0 where
  Is : Block → List Said → ℕ → Given
  Not : Fault → Given

-- where the reader of lines stands: the value of the line that comes, what the block has said, and its lines so far
pub record Listing : Type 0 where
  pub amount : OrFault Value
  pub block : Block
  pub lines : List Said

abbrev pub state_of : OrFault Value → Block → List Said → Listing
state_of a b l = record { amount = a; block = b; lines = l }

abbrev pub after : List Said → Turn → Next Listing Given
after l (turn.More a b) = Again (state_of a b l)
after l (turn.Over b n) = Done (Is b l n)
after l (turn.Not f) = Done (Not f)

abbrev pub judged_step : List ℕ → Listing → Said → OrFault ℤ → Next Listing Given
judged_step d l s (Ok z) = after (l.lines ++ s ∷ []) (more_of d (grown_by l.block s.value) s.next)
judged_step d l s (Err f) = Done (Not f)

abbrev pub read_step : List ℕ → Bool → ℕ → Listing → OrFault Said → Next Listing Given
read_step d quantity first l (Ok s) =
    judged_step d l s (judge_line (number_at l.lines) (length l.lines) first quantity l.block s.value)
read_step d quantity first l (Err f) = Done (Not f)

-- one line: read, judged, and what follows it
unfoldable pub line_step : List ℕ → Bool → ℕ → Listing → Next Listing Given
line_step d quantity first l = read_step d quantity first l (line_rest d l.amount)

-- and so on, until END VALUES or a refusal; the 4,097th is refused
unfoldable pub lines_from : List ℕ → Bool → ℕ → Listing → Given
lines_from d quantity first l = loop_of (line_step d quantity first) (Not (fault 0 0)) (suc (4096 - (first + length l.lines))) l

-- ---- what the code gives back of it: how many lines there are in all, and their numbers in the room behind those of the first lines
unfoldable pub listed_of : ℕ → Given → Listed
listed_of first (Is b l n) = listed.Is b (first + length l) n
listed_of first (Not f) = listed.Not f

pub record Stored (first : ℕ) (g : Given) (room end : List ℤ) : Type 0 where
  pub stored : {b : Block} {l : List Said} {n : ℕ} → g ≡ Is b l n → end ≡ pasted room (line_size * first) (cells_of l)
