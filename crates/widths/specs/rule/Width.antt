-- "Numbers and widths": how many bytes a number takes in the data, by its row's kind, and which numbers a row may name. The value
-- width w of a row is the largest of these over its range ends and values.
use Rattle.std.specs.Prelude.{Bool, true, cond, ◌&&◌, ℕ, ◌+◌, ◌-◌, ◌/◌, ◌^◌, min, eqb, ℤ, pos}
use Rattle.std.specs.Int.Signed.{le_z}
use Rattle.ascii.specs.rule.Tens.{digits_of}
use Rattle.cells.specs.rule.Cell.{signed_of, number_of}
use Rattle.layout.specs.declared.Format.{Format}
use Rattle.layout.specs.declared.Kind.{Kind}
use Rattle.layout.specs.declared.Kind.TheVariants.{Single, Multiple, Quantity, Character, Logical}
use Rattle.layout.specs.declared.Spread.TheVariants.{Bits, Fields}

abbrev pub size_of : ℤ → ℕ
size_of z = (signed_of z).size

abbrev pub minus_of : ℤ → ℕ
minus_of z = cond (signed_of z).minus 1 0

-- the point, if required, and the decimals
unfoldable pub tail_of : Format → ℕ
tail_of f = cond (eqb f.point 0) 0 (f.decimals + 1)

-- how many digits before the point no number goes without: one; under point code 2 "the whole part may then be empty in the data, and
-- w counts none"
unfoldable pub least_whole : Format → ℕ
least_whole f = cond (eqb f.point 2) 0 1

-- the digits before the point, without needless leading zeros but no fewer than that
unfoldable pub whole_digits : Format → ℕ → ℕ
whole_digits f n = cond (eqb (n / 10 ^ f.decimals) 0) (least_whole f) (digits_of (n / 10 ^ f.decimals))

unfoldable pub quantity_width : Format → ℤ → ℕ
quantity_width f z = whole_digits f (size_of z) + tail_of f + minus_of z

-- the decimals that a kind's numbers have: a quantity's own
unfoldable pub decimals_of : Kind → ℕ
decimals_of Single = 0
decimals_of (Multiple s) = 0
decimals_of (Quantity f) = f.decimals
decimals_of Character = 0
decimals_of Logical = 0

-- the digits of a category; in a bitstring the category itself; a quantity with its point and minus
unfoldable pub need : Kind → ℤ → ℕ
need Single z = digits_of (size_of z)
need (Multiple Bits) z = size_of z
need (Multiple (Fields n w)) z = digits_of (size_of z)
need (Quantity f) z = quantity_width f z
need Character z = 0
need Logical z = 0

-- the largest size of a scaled quantity: 15 digits; under point code 2 "all values nearer zero than 1"
unfoldable pub most_size : Format → ℕ
most_size f = cond (eqb f.point 2) (min (10 ^ f.decimals - 1) 999999999999999) 999999999999999

-- categories are 1 to 9,999; a quantity has either sign
unfoldable pub lowest : Kind → ℤ
lowest Single = pos 1
lowest (Multiple s) = pos 1
lowest (Quantity f) = number_of true (most_size f)
lowest Character = pos 1
lowest Logical = pos 1

unfoldable pub highest : Kind → ℤ
highest Single = pos 9999
highest (Multiple s) = pos 9999
highest (Quantity f) = pos (most_size f)
highest Character = pos 9999
highest Logical = pos 9999

-- a number that a row of this kind may name
abbrev pub fits_kind : Kind → ℤ → Bool
fits_kind k z = le_z (lowest k) z && le_z z (highest k)
