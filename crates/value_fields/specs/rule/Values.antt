-- What is exported for a value (document 02, C-16): "Numbers have a digit or more before the point without needless zeros, their decimals,
-- and
-- no point where there are none; sets are codes joined by semicolons with `none` for the empty set, missing is an empty field, truths are 0
-- and
-- 1". 45 is the minus, 46 the point, 59 the semicolon, 48 and 49 are 0 and 1.
use Rattle.std.specs.Prelude.{cond, List, [], ◌∷◌, ◌++◌, ℕ, ◌/◌, ◌^◌, eqb, ℤ}
use Rattle.cells.specs.rule.Cell.{signed_of}
use Rattle.layout.specs.rule.Row.{row_at}
use Rattle.fields.specs.rule.Number.{padded}
use Rattle.fields.specs.rule.Field.{Value, missing, number, members, text, truth, Field, holds, illegal}
use Rattle.records.specs.rule.Value.{reading_at}
use Rattle.lines.specs.rule.Text.{numeral}
use Rattle.widths.specs.rule.Width.{decimals_of}

-- a size with k decimals: the digits before the point, as many as there are and at least one; the point and the decimals
unfoldable pub amount_text : ℕ → ℕ → List ℕ
amount_text k n = numeral (n / 10 ^ k) ++ cond (eqb k 0) [] ((46 ∷ []) ++ padded k n)

unfoldable pub export_number : ℕ → ℤ → List ℕ
export_number k z = cond (signed_of z).minus ((45 ∷ []) ++ amount_text k (signed_of z).size) (amount_text k (signed_of z).size)

-- codes behind a first one
unfoldable pub codes_behind : List ℤ → List ℕ
codes_behind [] = []
codes_behind (m ∷ ms) = (59 ∷ []) ++ (export_number 0 m ++ codes_behind ms)

unfoldable pub set_text : List ℤ → List ℕ
set_text [] = 110 ∷ 111 ∷ 110 ∷ 101 ∷ []
set_text (m ∷ ms) = export_number 0 m ++ codes_behind ms

-- a value, where the block has k decimals
unfoldable pub export_value : ℕ → Value → List ℕ
export_value k missing = []
export_value k (number z) = export_number k z
export_value k (members ms) = set_text ms
export_value k (text s) = s
export_value k (truth b) = cond b 49 48 ∷ []

-- what is read; nothing where that is not legal, which no record before the first fault has
unfoldable pub export_field : ℕ → Field → List ℕ
export_field k (holds v) = export_value k v
export_field k illegal = []

-- THE FIELD of row i for a record
unfoldable pub row_field : List ℤ → List ℕ → ℕ → List ℕ
row_field t bytes i = export_field (decimals_of (row_at t i).kind) (reading_at t i bytes)
