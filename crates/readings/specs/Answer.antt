-- A row's answer by what its field says: "a text answers its place and length", "a set fills the start of a lent list; the rest is kept".
use Rattle.std.specs.Prelude.{◌≡◌, Bool, true, false, cond, List, ℕ, leb, ℤ, length}
use Rattle.fields.specs.rule.Field.{missing, number, members, text, truth, Field, holds, illegal, single_says, quantity_says}
use Rattle.fields.specs.rule.Number.{Said}
use Rattle.sets.specs.rule.Sets.{list_after}
use Rattle.sets.specs.declared.SetRead.{SetRead}
use Rattle.sets.specs.declared.SetRead.TheVariants as set
use Rattle.readings.specs.declared.Answer.{Answer}
use Rattle.readings.specs.declared.Answer.TheVariants.{Missing, Number, Set, Text, Truth}
use Rattle.readings.specs.declared.Answer.TheVariants.{BadTable, NoRow, ShortRecord, Illegal, ShortList}

-- the answer of a field whose first value place is p, with room for n members
unfoldable pub answer_of : ℕ → ℕ → Field → Answer
answer_of p n (holds missing) = Missing
answer_of p n (holds (number z)) = Number z
answer_of p n (holds (members ms)) = cond (leb (length ms) n) (Set (length ms)) ShortList
answer_of p n (holds (text s)) = Text p (length s)
answer_of p n (holds (truth b)) = Truth b
answer_of p n illegal = Illegal

-- a number field by what its bytes say, where zero is missing (SINGLE) and where it is not (QUANTITY)
unfoldable pub numeral_field : Bool → (ℤ → Bool) → Said → Field
numeral_field true ok s = single_says ok s
numeral_field false ok s = quantity_says ok s

unfoldable pub set_said : SetRead → Answer
set_said set.Missing = Missing
set_said (set.Count n) = Set n
set_said set.Illegal = Illegal
set_said set.Short = ShortList

unfoldable pub illegal_answer : Answer → Bool
illegal_answer Missing = false
illegal_answer (Number z) = false
illegal_answer (Set n) = false
illegal_answer (Text p n) = false
illegal_answer (Truth b) = false
illegal_answer BadTable = false
illegal_answer NoRow = false
illegal_answer ShortRecord = false
illegal_answer Illegal = true
illegal_answer ShortList = false

-- a set's answer, and the list after it
pub record SetAnswered (f : Field) (list list' : List ℤ) (r : Answer) : Type 0 where
  pub answer : (p : ℕ) → r ≡ answer_of p (length list) f
  pub leaves : list' ≡ list_after f list

-- a row's answer, and the list after it
pub record RowRead (p : ℕ) (f : Field) (list list' : List ℤ) (r : Answer) : Type 0 where
  pub answer : r ≡ answer_of p (length list) f
  pub leaves : list' ≡ list_after f list
