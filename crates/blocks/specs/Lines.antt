-- Where the code stands in a block, beside the block that the rule has: the numbers of its lines in the room, with their marks, and what
-- the books keep of it. A line as it is read, before it is judged.
use Rattle.std.specs.Prelude.{◌≡◌, Bool, false, List, [], ◌∷◌, ℕ, suc, ◌+◌, ◌*◌, ◌≤◌, ℤ, length}
use Rattle.std.proofs.Math.Option.{none, some}
use Rattle.layout.specs.rule.Layout.{line_size, most_lines}
use Rattle.tags.specs.rule.Tag.{tag_of}
use Rattle.values.specs.declared.Block as books
use Rattle.values.specs.declared.Said.{Said}
use Rattle.values.proofs.Lists.{Holds}
use Rattle.survey.specs.rule.Survey.{Amount, KeptText, Line, Block}
use Rattle.reading.specs.rule.Result.{Result, Is, Not, Reader, ◌>>=◌, give, repeat}
use Rattle.reading.specs.rule.Values.{unlisted}
use Rattle.reading.specs.rule.Least.{Charge}
use Rattle.bridge.specs.Blocks.{Kept, said_as}
use Rattle.xml_reading.specs.rule.Word.{RANGE, VALUE, CODE}
use Rattle.xml_reading.specs.rule.Open.{start, either_element, due, unknown_at, on_tag}
use Rattle.xml_reading.specs.rule.Element.{amount_in, body}
use Rattle.xml_reading.specs.rule.Block.{rich, range, lined, first, another_line}
use Rattle.values.specs.declared.Listed.{Listed}
use Rattle.elements.specs.Code.{found_of}
use Rattle.blocks.specs.Code.{block_of, told, Small, listed_of, Stored}
use Rattle.blocks.specs.declared.Worded.{Worded}
use Rattle.blocks.specs.declared.Worded.TheVariants as worded
use Rattle.blocks.specs.declared.Lined.{Lined}
use Rattle.blocks.specs.declared.Lined.TheVariants as lining

-- ---- a line that is read: its value, its text, and what else is wrong with it
pub record Wording : Type 0 where
  pub value : Amount
  pub text : KeptText
  pub charges : List Charge

abbrev pub line_from : Wording → Line
line_from w = record { value = w.value; text = w.text; special = false }

-- as the books have it: n is the place after it
abbrev pub said_for : Wording → ℕ → Said
said_for w n = said_as w.value w.value.place w.value.end w.value.end w.text n false n

unfoldable pub wording : Bool → List ℕ → Bool → ℕ → Reader Wording
wording bad d languages p e =
    on_tag bad d (tag_of bad d p e CODE [] [] 2 0 0 1) λ h empty q.
    body bad d VALUE (rich languages) empty >>= λ t.
    give (record { value = amount_in d h.a h.ae; text = t.text; charges = unknown_at h.unknown ∷ t.charges })

-- ---- the code's b, and the rule's c, behind `before` lines: `start` is the room as it was before the block's first line
pub record Lines (quantity : Bool) (before : ℕ) (start room : List ℤ) (stamp : ℕ) (marks : List ℕ) (last : ℕ) (b : books.Block)
    (c : Block) : Type 0 where
  pub holds : Holds (line_size * most_lines) before start room stamp marks last (told c.lines)
  pub kept : Kept b c
  pub small : Small quantity c.lines

-- ---- parts of the rule
-- a range alone
abbrev pub range_read : Bool → List ℕ → Bool → ℕ → Reader Block
range_read bad d quantity p = range bad d quantity p >>= λ r. give (unlisted (some r))

-- a start tag where a range or the first line is due
abbrev pub first_tag : Bool → List ℕ → Bool → Bool → ℕ → ℕ → Reader Block
first_tag bad d languages quantity before p =
    either_element bad d RANGE (start p) (range_read bad d quantity)
    (due bad d VALUE (start p) (lined bad d languages quantity before (unlisted none)))

-- all that a block holds
abbrev pub block_read : Bool → List ℕ → Bool → Bool → ℕ → Reader Block
block_read bad d languages quantity before =
    first bad d languages quantity before >>= repeat (suc most_lines) (another_line bad d languages quantity before)

-- the code stands beside some block
pub record Standing (quantity : Bool) (before : ℕ) (room : List ℤ) (stamp : ℕ) (marks : List ℕ) (last : ℕ) (b : books.Block) : Type 0 where
  pub start : List ℤ
  pub block : Block
  pub lines : Lines quantity before start room stamp marks last b block

-- ---- what is read of a line
abbrev pub worded_of : Result Wording → Worded
worded_of (Is w n) = worded.Is (said_for w n) (found_of w.charges)
worded_of (Not f) = worded.Not f

-- ---- a range, or a line more, or what is refused
abbrev pub lined_of : Result Block → Lined
lined_of (Is c n) = lining.Is (block_of c) n
lined_of (Not f) = lining.Not f

-- in a file of `top` bytes
pub record Went (top : ℕ) (quantity : Bool) (before : ℕ) (start room : List ℤ) (stamp : ℕ) (marks : List ℕ) (last : ℕ) (r : Result Block)
    (out : Lined) : Type 0 where
  pub answer : out ≡ lined_of r
  pub lines : {c : Block} {n : ℕ} → r ≡ Is c n → Lines quantity before start room stamp marks (last + 1) (block_of c) c
  pub next : {c : Block} {n : ℕ} → r ≡ Is c n → n ≤ top

-- the range, or the first line
pub record Begun (top : ℕ) (quantity : Bool) (before : ℕ) (start room : List ℤ) (stamp : ℕ) (marks : List ℕ) (r : Result Block)
    (out : Listed) : Type 0 where
  pub answer : out ≡ listed_of before r
  pub lines : {c : Block} {n : ℕ} → r ≡ Is c n → Lines quantity before start room stamp marks (before + length c.lines) (block_of c) c
  pub next : {c : Block} {n : ℕ} → r ≡ Is c n → n ≤ top

-- THE BLOCK: what is answered, what the room holds then, and that the place after it lies inside
pub record Closed (top before : ℕ) (r : Result Block) (room end : List ℤ) (out : Listed) : Type 0 where
  pub answer : out ≡ listed_of before r
  pub stored : Stored before r room end
  pub next : {c : Block} {n : ℕ} → r ≡ Is c n → n ≤ top
