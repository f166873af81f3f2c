-- THE FAULTS OF A SURVEY, 5 to 8: every charge of every statement, in the order in which statements are judged. Each list is the rule's own
-- (crate `reading`), one line a fault with its number, place and test.
use Rattle.std.specs.Prelude.{◌≡◌, Bool, true, false, not, List, [], ◌∷◌, ◌++◌, ℕ}
use Rattle.std.proofs.Math.Option.{Option, none, some, get_or}
use Rattle.tokens.specs.rule.Gap.{fault}
use Rattle.survey.specs.rule.Survey.{Range, Line, Block, Spread, Content, single, multiple, quantity, character, logical, Variable, Survey}
use Rattle.survey.specs.rule.Width.{room_in}
use Rattle.survey.specs.rule.Table.{holds, lines_all}
use Rattle.reading.specs.rule.Least.{Charge, ◌when◌, named}
use Rattle.reading.specs.rule.Statement.{position_charges, spread_charges, size_charges}
use Rattle.reading.specs.rule.Values.{range_charges, line_charges, with_line, unlisted}
use Rattle.reading.specs.rule.Variable.{ident_charges}

-- no charge's test holds
abbrev pub Clean : List Charge → Type 0
Clean l = named l ≡ []

-- ---- VALUES: the range, then line by line; `before` lines stand before the block
abbrev pub range_faults : Bool → Option Range → List Charge
range_faults q none = []
range_faults q (some r) = range_charges q r.from r.to

unfoldable pub line_faults : Bool → ℕ → Block → List Line → List Charge
line_faults q before b [] = []
line_faults q before b (l ∷ ls) = line_charges q before b l.value ++ line_faults q before (with_line b l) ls

abbrev pub block_faults : Bool → ℕ → Block → List Charge
block_faults q before b = range_faults q b.range ++ line_faults q before (unlisted b.range) b.lines

-- ---- what a type has behind its POSITION, of `room` bytes
abbrev pub spread_faults : ℕ → Option Spread → List Charge
spread_faults room none = []
spread_faults room (some s) = spread_charges room s.count s.width

abbrev pub content_faults : ℕ → ℕ → Content → List Charge
content_faults room before (single b) = block_faults false before b
content_faults room before (multiple s b) = spread_faults room s ++ block_faults false before b
content_faults room before (quantity b) = block_faults true before b
content_faults room before (character n) = size_charges n
content_faults room before logical = []

-- ---- a variable behind earlier ones; "width after `END VARIABLE`"
abbrev pub width_faults : Variable → List Charge
width_faults v = fault 7 v.start.place when not (holds v) ∷ []

abbrev pub variable_faults : List Variable → Variable → List Charge
variable_faults earlier v =
    ident_charges earlier v.ident
    ++ (position_charges v.start (get_or v.finish v.start)
    ++ (content_faults (room_in v) (lines_all earlier) v.content
    ++ width_faults v))

unfoldable pub variables_faults : List Variable → List Variable → List Charge
variables_faults earlier [] = []
variables_faults earlier (v ∷ l) = variable_faults earlier v ++ variables_faults (earlier ++ v ∷ []) l

abbrev pub faults_of : Survey → List Charge
faults_of s = variables_faults [] s.variables
