-- "VALUES: a range `a TO b`, followed by WITH exactly when lines follow; lines are a value, a string, optional SPECIAL; `END VALUES`.
-- Without a range, at least one line. No value labelled twice." Notes may stand before a range, line or END.
use Rattle.std.specs.Prelude.{Bool, cond, not, ◌&&◌, ◌||◌, List, [], ◌∷◌, ◌++◌, ℕ, suc, ◌+◌, eqb, ltb, leb, length}
use Rattle.std.proofs.Math.Option.{Option, none, some}
use Rattle.std.specs.Int.Signed.{lt_z}
use Rattle.cells.specs.rule.Cell.{eq_z}
use Rattle.layout.specs.rule.Layout.{most_lines}
use Rattle.scan.specs.rule.Loop.{Next, Again, Done}
use Rattle.tokens.specs.rule.Gap.{fault}
use Rattle.statements.specs.rule.Words.{VALUES, TO, WITH, SPECIAL, END}
use Rattle.survey.specs.rule.Survey.{Amount, Range, Line, Block}
use Rattle.survey.specs.rule.Width.{some_of, amounts, scaled}
use Rattle.reading.specs.rule.Result.{Reader, ◌>>=◌, ◌>>◌, give, repeat}
use Rattle.reading.specs.rule.Least.{Charge, ◌when◌, judged}
use Rattle.reading.specs.rule.Token.{either, here, word, optional, whether, amount, value, string}
use Rattle.reading.specs.rule.Statement.{notes, statement}

-- "Categories are digits, above 0. Quantities have an optional `-`, digits, an optional point, at least one digit in all"
unfoldable pub form_is : Bool → Amount → Bool
form_is quantity a = cond quantity a.formed (a.formed && (not a.minus && (not a.point && ltb 0 a.size)))

-- "category 9,999; scaled quantity 15 digits either sign, decimals 9"
unfoldable pub large : Bool → Amount → Bool
large quantity a = cond quantity (ltb 999999999999999 a.size || ltb 9 a.decimals) (ltb 9999 a.size)

abbrev pub unlike_amounts : Amount → Amount → Bool
unlike_amounts a b = not (eqb a.decimals b.decimals)

-- "6 value form wrong for its type, range reversed, decimals differ"; then 8
unfoldable pub range_charges : Bool → Amount → Amount → List Charge
range_charges quantity a b =
    fault 6 a.place when not (form_is quantity a)
    ∷ fault 6 b.place when not (form_is quantity b)
    ∷ fault 6 b.place when unlike_amounts a b
    ∷ fault 6 b.place when lt_z (scaled b) (scaled a)
    ∷ fault 8 a.place when large quantity a
    ∷ fault 8 b.place when large quantity b
    ∷ []

-- "6 .. decimals differ, value repeated", of a line behind those of its block; `before` lines stand before the block
unfoldable pub line_charges : Bool → ℕ → Block → Amount → List Charge
line_charges quantity before b a =
    fault 6 a.place when not (form_is quantity a)
    ∷ fault 6 a.place when some_of (unlike_amounts a) (amounts b)
    ∷ fault 6 a.place when some_of (λ l. eq_z (scaled l.value) (scaled a)) b.lines
    ∷ fault 8 a.place when large quantity a
    ∷ fault 8 a.place when leb most_lines (before + length b.lines)
    ∷ []

-- a block so far, and the value of its next line
pub record Listing : Type 0 where
  pub block : Block
  pub next : Amount

abbrev pub listing : Block → Amount → Listing
listing b a = record { block = b; next = a }

abbrev pub with_line : Block → Line → Block
with_line b l = record { range = b.range; lines = b.lines ++ l ∷ [] }

abbrev pub range_from : Amount → Amount → Range
range_from a b = record { from = a; to = b }

abbrev pub unlisted : Option Range → Block
unlisted r = record { range = r; lines = [] }

module _ (d : List ℕ) where
  -- END VALUES, right here
  abbrev pub end_values : Block → Reader Block
  end_values b = word d VALUES >> give b

  module _ (quantity : Bool) (before : ℕ) where
    -- a string, optional SPECIAL behind the value of a line
    unfoldable pub line : Block → Amount → Reader Line
    line b a = do
      t ← string d
      s ← whether d SPECIAL
      judged (line_charges quantity before b a) (record { value = a; text = t; special = s })

    -- a line, and what follows it: END VALUES or another value
    unfoldable pub listed : Listing → Reader (Next Listing Block)
    listed s = do
      l ← line s.block s.next
      notes d
      either d END (end_values (with_line s.block l) >>= λ b. give (Done b))
          (amount d >>= λ a. give (Again (listing (with_line s.block l) a)))

    -- "4,096 value lines in all": the 4,097th is refused
    abbrev pub lines : Block → Amount → Reader Block
    lines b a = repeat (suc most_lines) listed (listing b a)

    -- behind `a TO b`: WITH and lines, or END
    unfoldable pub range : Amount → Amount → Reader Block
    range a b = do
      with ← whether d WITH
      r ← judged (range_charges quantity a b) (range_from a b)
      notes d
      cond with (amount d >>= lines (unlisted (some r))) (here d END >> end_values (unlisted (some r)))

    abbrev pub range_or : Amount → Option Amount → Reader Block
    range_or a none = lines (unlisted none) a
    range_or a (some b) = range a b

    unfoldable pub values : Reader Block
    values = do
      statement d VALUES
      notes d
      a ← amount d
      b ← optional d TO (value d)
      range_or a b
