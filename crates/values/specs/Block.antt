-- THE CODE'S BOOKS, which contracts inside the library name; crate `bridge` proves them equal to the rule of crate `reading`.
-- VALUES: a range, followed by WITH exactly when lines follow; or lines, at least one; and END VALUES. Notes may stand before a range,
-- a line or END.
use Rattle.std.specs.Prelude.{ℕ, Bool, false, cond, List, [], pos, Ok, Err}
use Rattle.tokens.specs.declared.Choice.{Choice}
use Rattle.tokens.specs.declared.Choice.TheVariants.{Taken, Left}
use Rattle.tokens.specs.Gap.{gap_on}
use Rattle.tokens.specs.Token.{choice_of, word_here, word_on, value_here, past_value}
use Rattle.statements.specs.rule.Words.{VALUES, TO, END}
use Rattle.statements.specs.Note.{notes_on, statement_on}
use Rattle.values.specs.declared.Block.{Block}
use Rattle.values.specs.declared.Ranged.{Ranged}
use Rattle.values.specs.declared.Ranged.TheVariants as ranged
use Rattle.values.specs.Range.{range_rest}
use Rattle.values.specs.Line.{Given, Is, Not, state_of, lines_from}
use Rattle.tokens.specs.rule.Gap.{OrFault}
use Rattle.tokens.specs.declared.Value.{Value}

-- nothing said yet
abbrev pub empty_block : Block
empty_block = record { ranged = false; from = pos 0; to = pos 0; known = false; decimals = 0; point = 0 }

unfoldable pub closed_by : Block → OrFault ℕ → Given
closed_by b (Ok n) = Is b [] n
closed_by b (Err f) = Not f

-- what follows a range; `first` lines stand before the block
unfoldable pub range_then : List ℕ → Bool → ℕ → Ranged → Given
range_then d quantity first (ranged.Not f) = Not f
range_then d quantity first (ranged.Is b with n) =
    let t = notes_on d (Ok n) in
    cond with (lines_from d quantity first (state_of (value_here d t) b []))
    (closed_by b (word_on d (word_here d t END) VALUES))

abbrev pub to_or : List ℕ → Bool → ℕ → OrFault Value → Choice → Given
to_or d quantity first a (Taken m) = range_then d quantity first (range_rest d quantity a (Ok m))
to_or d quantity first a Left = lines_from d quantity first (state_of a empty_block [])

unfoldable pub values_on : List ℕ → Bool → ℕ → OrFault ℕ → Given
values_on d quantity first t =
    let a = value_here d (notes_on d (statement_on d t VALUES)) in
    to_or d quantity first a (choice_of d (gap_on d (past_value a)) TO)
