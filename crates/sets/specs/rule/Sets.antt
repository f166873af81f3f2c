-- Reading a set: what was found, the number of members, and the list that they fill.
use Rattle.std.specs.Prelude.{Bool, true, false, cond, List, ◌++◌, leb, ℤ, length, drop}
use Rattle.fields.specs.rule.Field.{missing, number, members, text, truth, Field, holds, illegal}

-- "a set fills the start of a lent list; the rest is kept"
unfoldable pub filled_of : List ℤ → List ℤ → List ℤ
filled_of ms list = ms ++ drop (length ms) list

unfoldable pub list_after : Field → List ℤ → List ℤ
list_after (holds (members ms)) list = cond (leb (length ms) (length list)) (filled_of ms list) list
list_after (holds missing) list = list
list_after (holds (number z)) list = list
list_after (holds (text s)) list = list
list_after (holds (truth b)) list = list
list_after illegal list = list

-- whether a field is illegal
unfoldable pub is_illegal : Field → Bool
is_illegal (holds v) = false
is_illegal illegal = true
