-- The scaled numbers of a column's entries that are present, and the power of ten that they share.
use Rattle.std.specs.Prelude.{List, [], ◌∷◌, ℕ, ◌^◌, ℤ}
use Rattle.layout.specs.rule.Row.{row_at}
use Rattle.matrix.specs.declared.Entry.{Entry}
use Rattle.matrix.specs.declared.Entry.TheVariants.{Absent, Scaled}
use Rattle.columns.specs.rule.Columns.{Column, of_row, of_category}
use Rattle.widths.specs.rule.Width.{decimals_of}

unfoldable pub numbers_of : List Entry → List ℤ
numbers_of [] = []
numbers_of (Absent ∷ es) = numbers_of es
numbers_of (Scaled z p ∷ es) = z ∷ numbers_of es

-- a category's numbers are 0 and 1, over 1
unfoldable pub power_of : List ℤ → Column → ℕ
power_of t (of_row i) = 10 ^ decimals_of (row_at t i).kind
power_of t (of_category i c) = 1
