-- Lines judged in the order of document 01, "4 to 8 by lowest number": a line's value is 6 where its form is wrong, its decimals
-- differ or an earlier line says it, and only then 8 where it is too large or a 4,097th. Values are compared by the numbers that
-- they say in full, however long. The reader asks for the size before the repeats (`judge_line`); proofs/Orders shows that this makes
-- no difference.
use Rattle.std.specs.Prelude.{ℕ, suc, ◌+◌, ◌-◌, ◌≡◌, Bool, cond, not, ◌&&◌, List, [], ◌∷◌, eqb, leb, ℤ, length, Ok, Err}
use Rattle.cells.specs.rule.Cell.{cell}
use Rattle.scan.specs.rule.Loop.{Next, Again, Done, loop_of}
use Rattle.tokens.specs.declared.Value.{Value}
use Rattle.tokens.specs.rule.Gap.{fault, OrFault}
use Rattle.tokens.specs.Token.{value_here}
use Rattle.statements.specs.Note.{notes_on}
use Rattle.values.specs.declared.Block.{Block}
use Rattle.values.specs.declared.Said.{Said}
use Rattle.values.specs.declared.Ranged.TheVariants as ranged
use Rattle.values.specs.Value.{form_of, large_of, true_of}
use Rattle.values.specs.Range.{range_rest}
use Rattle.values.specs.Line.{Given, Not, Listing, state_of, line_rest, repeated_in, judged_step, line_step}
use Rattle.values.specs.Block.{empty_block}

-- the true numbers of lines one after the other, and that of line i
unfoldable pub trues : List ℕ → List Said → List ℤ
trues d [] = []
trues d (s ∷ l) = true_of d s.value ∷ trues d l

unfoldable pub true_at : List ℕ → List Said → ℕ → ℤ
true_at d l i = cell (trues d l) i

-- a value behind the lines l of its block, with `first` lines before the block
unfoldable pub paper_line : List ℕ → List Said → ℕ → Bool → Block → Value → OrFault ℤ
paper_line d l first quantity b v =
    cond (form_of quantity v)
    (cond (b.known && not (eqb v.decimals b.decimals)) (Err (fault 6 v.place))
    (cond (repeated_in (true_at d l) (length l) (true_of d v)) (Err (fault 6 v.place))
    (cond (large_of quantity v) (Err (fault 8 v.place))
    (cond (leb 4096 (first + length l)) (Err (fault 8 v.place))
    (Ok (true_of d v))))))
    (Err (fault 6 v.place))

-- the reader of lines, with this judgement
abbrev pub paper_read : List ℕ → Bool → ℕ → Listing → OrFault Said → Next Listing Given
paper_read d quantity first l (Ok s) = judged_step d l s (paper_line d l.lines first quantity l.block s.value)
paper_read d quantity first l (Err f) = Done (Not f)

unfoldable pub paper_step : List ℕ → Bool → ℕ → Listing → Next Listing Given
paper_step d quantity first l = paper_read d quantity first l (line_rest d l.amount)

unfoldable pub paper_from : List ℕ → Bool → ℕ → Listing → Given
paper_from d quantity first l = loop_of (paper_step d quantity first) (Not (fault 0 0)) (suc (4096 - (first + length l.lines))) l

-- where the reader of lines can stand: at the first line of a block without a range, or behind a range; and then behind each line
pub data Reached (d : List ℕ) (quantity : Bool) (first : ℕ) : Listing → Type 0 where
  alone : (t : OrFault ℕ) → Reached d quantity first (state_of (value_here d t) empty_block [])
  behind : (t u : OrFault ℕ) {b : Block} {w : Bool} {n : ℕ} → range_rest d quantity (value_here d t) u ≡ ranged.Is b w n
      → Reached d quantity first (state_of (value_here d (notes_on d (Ok n))) b [])
  next : {l m : Listing} → Reached d quantity first l → line_step d quantity first l ≡ Again m → Reached d quantity first m
