-- Writing one row's value: the value that is given, the answer, and the record afterwards, for a row of each kind.
use Rattle.std.specs.Prelude.{List, ℕ, ℤ}
use Rattle.fields.specs.rule.Field as field
use Rattle.writes.specs.declared.Value.{Value}
use Rattle.writes.specs.declared.Value.TheVariants.{Missing, Number, Set, Text, Truth}

-- what is given: a set is the list beside it, a text the bytes beside it
unfoldable pub lent_value : Value → List ℤ → List ℕ → field.Value
lent_value Missing list bytes = field.missing
lent_value (Number z) list bytes = field.number z
lent_value Set list bytes = field.members list
lent_value Text list bytes = field.text bytes
lent_value (Truth b) list bytes = field.truth b
