-- What the code answers with, for each answer of the rule (crate `xml_reading`, rule/Block): a block by the few numbers that the books of
-- crate `values` keep of it, its lines by their numbers in a lent room.
use Rattle.std.specs.Prelude.{◌≡◌, Bool, true, false, cond, ◌&&◌, List, [], ◌∷◌, ℕ, ◌+◌, ◌*◌, ◌-◌, eqb, ltb, ℤ, length, take, drop, Ok, Err}
use Rattle.std.proofs.Math.Option.{Option, none, some}
use Rattle.std.specs.Int.Signed.{lt_z}
use Rattle.cells.specs.rule.Cell.{number_of, pasted}
use Rattle.layout.specs.rule.Layout.{line_size}
use Rattle.spans.specs.rule.Heard.{heard, All}
use Rattle.amounts.specs.rule.Said.{true_in}
use Rattle.tokens.specs.declared.Value.{Value}
use Rattle.tokens.specs.rule.Gap.{fault, OrFault}
use Rattle.values.specs.declared.Block as books
use Rattle.values.specs.declared.Said.{Said}
use Rattle.values.specs.declared.Listed.{Listed}
use Rattle.values.specs.declared.Listed.TheVariants as listed
use Rattle.values.specs.Value.{form_of, large_of}
use Rattle.values.specs.Range.{judge_range}
use Rattle.values.specs.Line.{grown_by}
use Rattle.ranks.specs.declared.Found.{Found}
use Rattle.ranks.specs.rule.Rank.{found_at, lower_found}
use Rattle.tags.specs.declared.Held.{Held}
use Rattle.elements.specs.declared.Body.{Body}
use Rattle.survey.specs.rule.Survey.{Amount, Range, Line, Block}
use Rattle.survey.specs.rule.Width.{some_of, amounts, scaled, decimals_in, point_in}
use Rattle.survey.specs.rule.Table.{from_of, to_of, cells_of}
use Rattle.reading.specs.rule.Result.{Result, Is, Not}
use Rattle.reading.specs.rule.Least.{judged}
use Rattle.reading.specs.rule.Values.{large, range_from, unlisted}
use Rattle.xml_reading.specs.rule.Element.{amount_in}
use Rattle.xml_reading.specs.rule.Block.{pair_charges}
use Rattle.bridge.specs.Amounts.{written}
use Rattle.bridge.specs.Blocks.{said_as}
use Rattle.blocks.specs.declared.Lined.{Lined}
use Rattle.blocks.specs.declared.Lined.TheVariants as lined
use Rattle.blocks.specs.declared.Worded.{Worded}
use Rattle.blocks.specs.declared.Worded.TheVariants as worded

-- ---- a value as 1.1's struct has it: its stretch is all of it
abbrev pub held_as : Amount → Value
held_as a = written a a.place a.end a.end

-- the bytes of d from v to e
abbrev pub stretch : List ℕ → ℕ → ℕ → List ℕ
stretch d v e = take (e - v) (drop v d)

-- b lies below a, by what their digits say in full
abbrev pub Below : List ℕ → Value → Value → Bool → Type 0
Below d a b r =
    (x y : List ℕ) → heard (stretch d a.first a.last) 0 ≡ All x → heard (stretch d b.first b.last) 0 ≡ All y
    → r ≡ lt_z (number_of b.minus (true_in y)) (number_of a.minus (true_in x))

-- ---- a range, whose second value may stand first: of equal numbers its place goes before then
abbrev pub turned : Bool → Value → OrFault books.Block → OrFault books.Block
turned quantity b (Ok k) = Ok k
turned quantity b (Err f) =
    Err (cond (eqb f.number 8 && large_of quantity b) (fault 8 b.place) f)

unfoldable pub pair_of : Bool → Bool → Value → Value → OrFault books.Block
pair_of below quantity a b =
    cond (ltb b.place a.place)
    (cond (form_of quantity b) (turned quantity b (judge_range below quantity a b)) (Err (fault 6 b.place)))
    (judge_range below quantity a b)

-- ---- a block as the books keep it
abbrev pub has_range : Option Range → Bool
has_range none = false
has_range (some r) = true

unfoldable pub block_of : Block → books.Block
block_of c = record {
  ranged = has_range c.range;
  from = from_of c.range;
  to = to_of c.range;
  known = some_of (λ (a : Amount). true) (amounts c);
  decimals = decimals_in (amounts c);
  point = point_in (amounts c);
}

abbrev pub range_block : Range → Block
range_block r = unlisted (some r)

abbrev pub judged_of : Result Range → OrFault books.Block
judged_of (Is r n) = Ok (block_of (range_block r))
judged_of (Not f) = Err f

-- its lines as the books keep them
abbrev pub said_of : Line → Said
said_of x = said_as x.value 0 0 0 x.text 0 x.special 0

unfoldable pub told : List Line → List Said
told [] = []
told (x ∷ l) = said_of x ∷ told l

-- what is judged of a line, in the books
abbrev pub verdict_of : Result Line → OrFault ℤ
verdict_of (Is x n) = Ok (scaled x.value)
verdict_of (Not f) = Err f

-- no line is too large
unfoldable pub Small : Bool → List Line → Type 0
Small quantity l = some_of (λ (x : Line). large quantity x.value) l ≡ false

-- what else was found in an element comes behind what it says: the block, and the place after it
abbrev pub unless_of : Found → books.Block → ℕ → Lined
unless_of x b n = cond (eqb x.number 0) (lined.Is b n) (lined.Not (fault x.number x.place))

-- a line that was judged: the block has grown by it
abbrev pub placed_of : books.Block → Said → Found → OrFault ℤ → Lined
placed_of b s x (Ok z) = unless_of x (grown_by b s.value) s.next
placed_of b s x (Err f) = lined.Not f

-- a range that was judged
abbrev pub ranged_of : Found → ℕ → OrFault books.Block → Lined
ranged_of x n (Ok b) = unless_of x b n
ranged_of x n (Err f) = lined.Not f

unfoldable pub settled_of : List ℕ → Bool → Held → Found → ℕ → Lined
settled_of d quantity h x n =
    let a = amount_in d h.a h.ae in
    let b = amount_in d h.b h.be in
    ranged_of (lower_found (found_at 51 h.unknown) x) n (judged_of (judged (pair_charges quantity a b) (range_from a b) n))

-- a line whose start tag held h, and whose text was read
unfoldable pub word_of : List ℕ → Held → Body → Worded
word_of d h t =
    worded.Is (record {
      value = held_as (amount_in d h.a h.ae);
      text = record { place = t.place; length = t.length; next = t.next };
      special = 0;
      next = t.next;
    }) (lower_found (found_at 51 h.unknown) t.found)

-- a block with so many lines in all
abbrev pub counted_of : Lined → ℕ → Listed
counted_of (lined.Is b n) last = listed.Is b last n
counted_of (lined.Not f) last = listed.Not f

-- ---- what VALUES give: the block, how many lines there are in all, and the place after its end tag
unfoldable pub listed_of : ℕ → Result Block → Listed
listed_of before (Is c n) = listed.Is (block_of c) (before + length c.lines) n
listed_of before (Not f) = listed.Not f

-- its lines stand in the room behind those of `before` lines
pub record Stored (before : ℕ) (r : Result Block) (room end : List ℤ) : Type 0 where
  pub stored : {c : Block} {n : ℕ} → r ≡ Is c n → end ≡ pasted room (line_size * before) (cells_of c.lines)
