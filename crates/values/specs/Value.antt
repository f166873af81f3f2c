-- THE CODE'S BOOKS, which contracts inside the library name; crate `bridge` proves them equal to the rule of crate `reading`.
-- A value by its type. Categories are digits, above 0, up to 9,999. Quantities have an optional minus, digits, an optional point, at
-- least one digit in all; their digits, the point left out, say the scaled number, of at most 15 digits, with at most 9 decimals.
use Rattle.std.specs.Prelude.{ℕ, Bool, cond, not, ◌&&◌, ◌||◌, List, eqb, ltb, ℤ}
use Rattle.scan.specs.Order.{value_of}
use Rattle.cells.specs.rule.Cell.{number_of}
use Rattle.tokens.specs.declared.Value.{Value}

unfoldable pub form_of : Bool → Value → Bool
form_of quantity v = cond quantity v.formed (v.formed && (not v.minus && (not v.point && ltb 0 v.size)))

unfoldable pub large_of : Bool → Value → Bool
large_of quantity v = cond quantity (ltb 999999999999999 v.size || ltb 9 v.decimals) (ltb 9999 v.size)

-- the true value of a formed value, scaled, however many digits it has
unfoldable pub true_of : List ℕ → Value → ℤ
true_of d v = number_of v.minus (value_of d v.first v.last)

-- the same where it passes no limit; minus zero is zero
unfoldable pub scaled_of : Value → ℤ
scaled_of v = number_of v.minus v.size

-- written with no digit before the point
abbrev pub bare_of : Value → Bool
bare_of v = v.point && eqb v.whole 0

-- the point's code of one number: 0 none, 1 a point, 2 a point with no digit before it
abbrev pub point_of : Value → ℕ
point_of v = cond v.point (cond (eqb v.whole 0) 2 1) 0

-- and of two, or two lots, of numbers together: where theirs differ, some number has a point and some is not bare
abbrev pub points_of : ℕ → ℕ → ℕ
points_of a b = cond (eqb a b) a 1
