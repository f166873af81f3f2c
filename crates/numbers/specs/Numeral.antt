-- What the answers of the number readers mean, in the terms of the definitions of fields.
use Rattle.std.specs.Prelude.{Bool, cond, List, ℕ, Option, Some, None}
use Rattle.cells.specs.rule.Cell.{number_of}
use Rattle.fields.specs.rule.Number.{Said, blank, says, wrong, digits_only, decimal_from}
use Rattle.numbers.specs.declared.Numeral.{Numeral}
use Rattle.numbers.specs.declared.Numeral.TheVariants.{Blank, Says, Wrong}

unfoldable pub said_of : Numeral → Said
said_of Blank = blank
said_of (Says z) = says z
said_of Wrong = wrong

-- digits that follow the number n
unfoldable pub digits_read : ℕ → List ℕ → Option ℕ
digits_read n s = cond (digits_only s) (Some (decimal_from n s)) None

-- the number that the whole part and the decimals say
unfoldable pub decimals_read : Bool → ℕ → List ℕ → Said
decimals_read minus whole s = cond (digits_only s) (says (number_of minus (decimal_from whole s))) wrong
