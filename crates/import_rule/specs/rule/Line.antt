-- A line of a text that is imported (document 02, C-23): "build each record from L spaces by ordinary writes in row order". "63 wrong
-- number of
-- fields, 64 field not a legal value", the lowest number that applies: 63 at the column behind the last that is there and due, 64 at the
-- lowest
-- column.
use Rattle.std.specs.Prelude.{cond, List, [], ◌∷◌, ℕ, ◌+◌, min, eqb, ℤ, length}
use Rattle.layout.specs.rule.Row.{row_at}
use Rattle.fields.specs.rule.Field.{Value, Field, holds, illegal, spaces}
use Rattle.fields.specs.rule.Row.{written_of}
use Rattle.sound.specs.rule.Rows.{rows_of, length_of}
use Rattle.field_values.specs.rule.Read.{value_from}

-- a record, or a refusal's number and column
pub data LineSays : Type 0 where
  builds : List ℕ → LineSays
  faulty : ℕ → ℕ → LineSays

-- the first field that is no value ends it
unfoldable pub on_field : Field → (Value → LineSays) → ℕ → LineSays
on_field (holds x) g c = g x
on_field illegal g c = faulty 64 c

-- the fields of the rows from i on, written to the record s in row order
unfoldable pub record_from : List ℤ → ℕ → ℕ → List (List ℕ) → List ℕ → LineSays
record_from t v i [] s = builds s
record_from t v i (f ∷ fs) s = on_field (value_from t v (row_at t i) f) (λ x. record_from t v (i + 1) fs (written_of t v (row_at t i) x s))
    (i + 1)

-- WHAT A LINE SAYS: a field for each row
unfoldable pub line_says : List ℤ → List (List ℕ) → LineSays
line_says t fs =
    cond (eqb (length fs) (rows_of t)) (record_from t (rows_of t) 0 fs (spaces (length_of t))) (faulty 63 (min (length fs) (rows_of t) + 1))
