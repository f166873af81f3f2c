-- "A single, quantity or logical makes one column, a multiple one for each defined category, rising, with 0 or 1, a character none."
-- Columns stand in the order of the table's rows. What a column holds of a record is taken from THE READING of its row.
use Rattle.std.specs.Prelude.{cond, List, [], ◌∷◌, ◌++◌, ℕ, zero, suc, ◌^◌, ℤ, pos}
use Rattle.layout.specs.declared.Kind.{Kind}
use Rattle.layout.specs.declared.Kind.TheVariants.{Single, Multiple, Quantity, Character, Logical}
use Rattle.layout.specs.rule.Row.{row_at}
use Rattle.fields.specs.rule.Legal.{legal}
use Rattle.fields.specs.rule.Field.{missing, number, members, text, truth, Field, holds, illegal, is_member}
use Rattle.fields.specs.rule.Row.{defined, reading_of}
use Rattle.matrix.specs.declared.Entry.{Entry}
use Rattle.matrix.specs.declared.Entry.TheVariants.{Absent, Scaled}
use Rattle.widths.specs.rule.Width.{decimals_of}

-- a column of a table: a row's, or that of a category of a row
pub data Column : Type 0 where
  of_row : ℕ → Column
  of_category : ℕ → ℕ → Column

unfoldable pub of_categories : ℕ → List ℕ → List Column
of_categories i [] = []
of_categories i (c ∷ cs) = of_category i c ∷ of_categories i cs

-- the columns of row i, by its kind; categories are 1 to 9,999, and the defined ones are the legal ones
unfoldable pub columns_by : Kind → List ℤ → ℕ → ℕ → List Column
columns_by Single t v i = of_row i ∷ []
columns_by (Multiple s) t v i = of_categories i (defined (legal t v (row_at t i)) 1 9999)
columns_by (Quantity f) t v i = of_row i ∷ []
columns_by Character t v i = []
columns_by Logical t v i = of_row i ∷ []

abbrev pub row_columns : List ℤ → ℕ → ℕ → List Column
row_columns t v i = columns_by (row_at t i).kind t v i

-- the columns of n rows from row i on
unfoldable pub columns_from : List ℤ → ℕ → ℕ → ℕ → List Column
columns_from t v i zero = []
columns_from t v i (suc n) = row_columns t v i ++ columns_from t v (suc i) n

-- ---- what a column holds of a record
-- a number is over the row's power of ten, a truth is 0 or 1
unfoldable pub number_entry : ℕ → Field → Entry
number_entry p (holds missing) = Absent
number_entry p (holds (number z)) = Scaled z p
number_entry p (holds (members ms)) = Absent
number_entry p (holds (text s)) = Absent
number_entry p (holds (truth b)) = Scaled (cond b (pos 1) (pos 0)) p
number_entry p illegal = Absent

-- a category is 1 where the set has it, else 0: so also in the empty set, which is present
unfoldable pub member_entry : ℕ → Field → Entry
member_entry c (holds missing) = Absent
member_entry c (holds (number z)) = Absent
member_entry c (holds (members ms)) = Scaled (cond (is_member ms (pos c)) (pos 1) (pos 0)) 1
member_entry c (holds (text s)) = Absent
member_entry c (holds (truth b)) = Absent
member_entry c illegal = Absent

-- THE ENTRY of a column in a record
unfoldable pub entry_of : List ℤ → ℕ → List ℕ → Column → Entry
entry_of t v bytes (of_row i) = number_entry (10 ^ decimals_of (row_at t i).kind) (reading_of t v (row_at t i) bytes)
entry_of t v bytes (of_category i c) = member_entry c (reading_of t v (row_at t i) bytes)

-- a record's entries, in column order
unfoldable pub entries_of : List ℤ → ℕ → List ℕ → List Column → List Entry
entries_of t v bytes [] = []
entries_of t v bytes (c ∷ cs) = entry_of t v bytes c ∷ entries_of t v bytes cs
