-- EACH SUMMARY says its column: how many values are present, a smallest and a largest of them, and zeros where there is none.
-- Assumes nothing.
use Rattle.std.specs.Prelude.{◌≡◌, refl, List, [], ◌∷◌, ℕ, ◌^◌, ℤ}
use Rattle.layout.specs.rule.Row.{row_at}
use Rattle.fields.specs.rule.Field.{missing, number, members, text, truth, Field, holds, illegal}
use Rattle.fields.specs.rule.Row.{reading_of}
use Rattle.quotient.specs.Limits as limits
use Rattle.summary.specs.rule.Summary.{none_summed, summary_of}
use Rattle.summary.specs.Laws.{values_of, Each, Says, summary_says, summary_none}
use Rattle.matrix.specs.declared.Entry.{Entry}
use Rattle.matrix.specs.declared.Entry.TheVariants.{Absent, Scaled}
use Rattle.matrix.specs.rule.Entry.{present_of}
use Rattle.columns.specs.rule.Columns.{Column, of_row, of_category, number_entry, member_entry, entry_of}
use Rattle.widths.specs.rule.Width.{decimals_of}
use Rattle.matrices.specs.rule.Matrix.{column_entries}
use Rattle.matrix_laws.specs.Numbers.{numbers_of, power_of}

-- an entry of a column over the power p
unfoldable pub Over : ℕ → Entry → Type 0
Over p Absent = Unit {0}
Over p (Scaled z q) = q ≡ p

number_over : (p : ℕ) (f : Field) → Over p (number_entry p f)
unfolding Over number_entry
number_over p (holds missing) = tt
number_over p (holds (number z)) = refl
number_over p (holds (members ms)) = tt
number_over p (holds (text s)) = tt
number_over p (holds (truth b)) = refl
number_over p illegal = tt

member_over : (c : ℕ) (f : Field) → Over 1 (member_entry c f)
unfolding Over member_entry
member_over c (holds missing) = tt
member_over c (holds (number z)) = tt
member_over c (holds (members ms)) = refl
member_over c (holds (text s)) = tt
member_over c (holds (truth b)) = tt
member_over c illegal = tt

-- a column has one power of ten
pub entry_over : (t : List ℤ) (v : ℕ) (r : List ℕ) (c : Column) → Over (power_of t c) (entry_of t v r c)
unfolding entry_of power_of
entry_over t v r (of_row i) = number_over (10 ^ decimals_of (row_at t i).kind) (reading_of t v (row_at t i) r)
entry_over t v r (of_category i c) = member_over c (reading_of t v (row_at t i) r)

one_more : (p : ℕ) (e : Entry) (es : List Entry) → Over p e → present_of es ≡ values_of p (numbers_of es) → present_of (e ∷ es)
    ≡ values_of p (numbers_of (e ∷ es))
unfolding Over present_of numbers_of values_of
one_more p Absent es o h = h
one_more p (Scaled z q) es o h = rw (o, h)

-- THE VALUES PRESENT in a column are those of its scaled numbers over its power
pub column_values : (t : List ℤ) (v : ℕ) (c : Column) (rs : List (List ℕ))
    → present_of (column_entries t v c rs) ≡ values_of (power_of t c) (numbers_of (column_entries t v c rs))
unfolding column_entries present_of numbers_of values_of
column_values t v c [] = refl
column_values t v c (r ∷ rs) = one_more (power_of t c) (entry_of t v r c) (column_entries t v c rs) (entry_over t v r c)
    (column_values t v c rs)

-- THE LAW: where a number is present, the count, a smallest and a largest value
pub summary_column : (t : List ℤ) (v : ℕ) (c : Column) (rs : List (List ℕ)) (n : ℤ) (ns : List ℤ) → limits.Power (power_of t c)
    → numbers_of (column_entries t v c rs) ≡ n ∷ ns → Each (n ∷ ns)
    → Says (power_of t c) (n ∷ ns) (summary_of (present_of (column_entries t v c rs)))
summary_column t v c rs n ns p e g = rw (column_values t v c rs, e) (summary_says (power_of t c) p n ns g)

-- none present: count 0, both zero
pub summary_empty : (t : List ℤ) (v : ℕ) (c : Column) (rs : List (List ℕ)) → numbers_of (column_entries t v c rs) ≡ []
    → summary_of (present_of (column_entries t v c rs)) ≡ none_summed
unfolding values_of
summary_empty t v c rs e = rw (column_values t v c rs, e) summary_none
