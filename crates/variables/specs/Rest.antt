-- THE CODE'S BOOKS, which contracts inside the library name; crate `bridge` proves them equal to the rule of crate `reading`.
-- By type: SINGLE and QUANTITY have VALUES; MULTIPLE an optional SPREAD, then VALUES; CHARACTER SIZE; LOGICAL nothing.
use Rattle.std.specs.Prelude.{ℕ, ◌+◌, ◌*◌, Bool, true, false, cond, List, [], eqb, ◌≡◌, ℤ, length, Ok, Err}
use Rattle.tokens.specs.declared.Fault.{Fault}
use Rattle.tokens.specs.declared.Choice.{Choice}
use Rattle.tokens.specs.declared.Choice.TheVariants.{Taken, Left}
use Rattle.tokens.specs.Token.{choice_of}
use Rattle.statements.specs.rule.Words.{SPREAD}
use Rattle.statements.specs.Note.{notes_on}
use Rattle.statements.specs.Spread.{spread_rest}
use Rattle.statements.specs.Size.{size_on}
use Rattle.values.specs.declared.Block.{Block}
use Rattle.values.specs.declared.Said.{Said}
use Rattle.values.specs.Line.{Given, cells_of}
use Rattle.values.specs.Line as given
use Rattle.values.specs.Block.{empty_block, values_on}
use Rattle.cells.specs.rule.Cell.{pasted}
use Rattle.layout.specs.rule.Layout.{line_size}
use Rattle.tokens.specs.rule.Gap.{OrFault}
use Rattle.tokens.specs.declared.Figures.{Figures}
use Rattle.statements.specs.declared.Subfields.{Subfields}
use Rattle.variables.specs.declared.Rest.{Rest}

-- what the type has behind its position: what its values say, their lines, its subfields and their width, its size, and the place
-- after it; what a type lacks is 0
pub record Telling : Type 0 where
  pub block : Block
  pub lines : List Said
  pub subfields : ℕ
  pub subwidth : ℕ
  pub size : ℕ
  pub next : ℕ

pub data Told : Type 0 where
  Is : Telling → Told
  Not : Fault → Told

unfoldable pub join_values : ℕ → ℕ → Given → Told
join_values count width (given.Is b l n) = Is (record { block = b; lines = l; subfields = count; subwidth = width; size = 0; next = n })
join_values count width (given.Not f) = Not f

unfoldable pub values_rest : List ℕ → Bool → ℕ → OrFault ℕ → ℕ → ℕ → Told
values_rest d quantity first t count width = join_values count width (values_on d quantity first t)

unfoldable pub join_size : OrFault Figures → Told
join_size (Ok x) = Is (record { block = empty_block; lines = []; subfields = 0; subwidth = 0; size = x.size; next = x.next })
join_size (Err f) = Not f

unfoldable pub join_nothing : OrFault ℕ → Told
join_nothing (Ok n) = Is (record { block = empty_block; lines = []; subfields = 0; subwidth = 0; size = 0; next = n })
join_nothing (Err f) = Not f

abbrev pub spread_or : List ℕ → ℕ → OrFault Subfields → Told
spread_or d first (Ok s) = values_rest d false first (Ok s.next) s.count s.width
spread_or d first (Err f) = Not f

abbrev pub optional : List ℕ → ℕ → OrFault ℕ → ℕ → Choice → Told
optional d first n width (Taken m) = spread_or d first (spread_rest d (Ok m) width)
optional d first n width Left = values_rest d false first n 0 0

-- SPREAD or not, for a position of `width` bytes, and then VALUES
unfoldable pub spread_then : List ℕ → ℕ → OrFault ℕ → ℕ → Told
spread_then d first t width =
    let n = notes_on d t in
    optional d first n width (choice_of d n SPREAD)

-- `first` value lines stand before those of the variable
unfoldable pub rest_of : List ℕ → ℕ → ℕ → OrFault ℕ → ℕ → Told
rest_of d first kind t width =
    cond (eqb kind 1) (values_rest d false first t 0 0)
    (cond (eqb kind 2) (spread_then d first t width)
    (cond (eqb kind 3) (values_rest d true first t 0 0)
    (cond (eqb kind 4) (join_size (size_on d t))
    (join_nothing t))))

-- ---- what the code gives back of it: how many lines there are in all, and their numbers in the room behind those of the first lines
unfoldable pub rested_of : ℕ → Told → OrFault Rest
rested_of first (Is x) = Ok (record {
  block = x.block;
  last = first + length x.lines;
  subfields = x.subfields;
  subwidth = x.subwidth;
  size = x.size;
  next = x.next;
})
rested_of first (Not f) = Err f

pub record Stored (first : ℕ) (x : Told) (room end : List ℤ) : Type 0 where
  pub stored : {y : Telling} → x ≡ Is y → end ≡ pasted room (line_size * first) (cells_of y.lines)
