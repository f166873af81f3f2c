-- A NUMERAL: the text of a count is digits, they say the count, and no fewer would hold it.
use Rattle.std.specs.Prelude.{◌≡◌, true, ℕ, ◌^◌, ◌≤◌, ◌<◌, length}
use Rattle.std.proofs.Common.{arith}
use Rattle.ascii.specs.rule.Tens.{digits_of}
use Rattle.ascii.specs.Tens.{digits_hold, digits_least}
use Rattle.fields.specs.rule.Number.{decimal, digits_only}
use Rattle.fieldlaws.specs.NumberLaws.{padded_digits, decimal_padded}
use Rattle.lines.specs.rule.Text.{numeral}
use Rattle.lines.specs.Appended.{numeral_length}

pub numeral_digits : (n : ℕ) → digits_only (numeral n) ≡ true
unfolding numeral
numeral_digits n = padded_digits (digits_of n) n

pub numeral_says : (n : ℕ) → n < 10 ^ 16 → decimal (numeral n) ≡ n
unfolding numeral
numeral_says n h = decimal_padded (digits_of n) n (digits_hold n h)

-- one digit at least, and as many as the first power of ten above the number
pub numeral_fewest : (n j : ℕ) → 1 ≤ j → n < 10 ^ j → length (numeral n) ≤ j
numeral_fewest n j h l = omega (arith, numeral_length n, digits_least n j h l)
