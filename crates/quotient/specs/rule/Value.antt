-- "Each value is the scaled number and its power of ten, both converted exactly, divided once."
use Rattle.std.specs.Prelude.{ℕ, ℤ, pos, Float}
use Rattle.std.specs.Float.{binary64}
use Rattle.std.specs.Float.Ieee.{of_int, div}

unfoldable pub value_of : ℤ → ℕ → Float
value_of n p = div binary64 (of_int binary64 n) (of_int binary64 (pos p))
