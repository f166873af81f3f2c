-- THE CODE'S BOOKS, which contracts inside the library name; crate `bridge` proves them equal to the rule of crate `reading`.
-- Which of two numbers is the smaller, by the digits that they are written with and without a limit to their length.
use Rattle.std.specs.Prelude.{ℕ, ◌+◌, cond, Bool, true, false, List, [], ◌∷◌, leb, ltb, eqb}
use Rattle.scan.specs.rule.Text.{Text, stop, sign, text}
use Rattle.scan.specs.rule.Number.{is_digit, decimal_of}
use Rattle.scan.specs.declared.Figure.{Figure}
use Rattle.scan.specs.declared.Figure.TheVariants.{One, Nothing}
use Rattle.scan.specs.declared.Order.{Order}
use Rattle.scan.specs.declared.Order.TheVariants.{Less, Same, More}

-- the digits of a text that stand before the place `end`, a sign and a point left out
unfoldable pub digits_to : ℕ → Text → List ℕ
digits_to end (stop p) = []
digits_to end (sign p b t) = let rest = digits_to end t in cond (leb end p) [] (cond (is_digit b) (b ∷ rest) rest)

-- the number that the digits of the file d from `at` to `end` say
unfoldable pub value_of : List ℕ → ℕ → ℕ → ℕ
value_of d at end = decimal_of 0 (digits_to end (text d at))

-- the first of these digits, and the place after it
unfoldable pub figure_of : ℕ → Text → Figure
figure_of end (stop p) = Nothing
figure_of end (sign p b t) = cond (leb end p) Nothing (cond (is_digit b) (One b (p + 1)) (figure_of end t))

-- digits without the zeros in front
unfoldable pub stripped : List ℕ → List ℕ
stripped [] = []
stripped (b ∷ s) = cond (eqb b 48) (stripped s) (b ∷ s)

-- one more digit of each
unfoldable pub order_then : Order → ℕ → ℕ → Order
order_then Less x y = Less
order_then Same x y = cond (ltb x y) Less (cond (ltb y x) More Same)
order_then More x y = More

unfoldable pub is_less : Order → Bool
is_less Less = true
is_less Same = false
is_less More = false

-- two rows of digits that have no zeros in front: the shorter is less, and of two as long the one with the smaller first digit
-- that differs
unfoldable pub less_of : Order → List ℕ → List ℕ → Bool
less_of o [] [] = is_less o
less_of o [] (y ∷ t) = true
less_of o (x ∷ s) [] = false
less_of o (x ∷ s) (y ∷ t) = less_of (order_then o x y) s t
