-- What the code keeps of rule/Record.antt: by a row's answer, by a row's kind, and of the rows of a tested table.
use Rattle.std.specs.Prelude.{◌≡◌, cond, List, ℕ, ℤ, length}
use Rattle.layout.specs.declared.Spread.TheVariants.{Bits, Fields}
use Rattle.layout.specs.declared.Kind.{Kind}
use Rattle.layout.specs.declared.Kind.TheVariants.{Single, Multiple, Quantity, Character, Logical}
use Rattle.layout.specs.declared.Row.{Row}
use Rattle.sets.specs.rule.Sets.{filled_of}
use Rattle.readings.specs.Answer.{illegal_answer}
use Rattle.readings.specs.declared.Answer.{Answer}
use Rattle.readings.specs.declared.Answer.TheVariants as answer
use Rattle.record_values.specs.declared.Tally.{Tally}
use Rattle.record_values.specs.rule.Record.{row_reading, members_below, refused_below, cells_below}

-- the members that an answer counts, and whether it is refused
unfoldable pub members_in : Answer → ℕ
members_in answer.Missing = 0
members_in (answer.Number z) = 0
members_in (answer.Set n) = n
members_in (answer.Text p n) = 0
members_in (answer.Truth b) = 0
members_in answer.BadTable = 0
members_in answer.NoRow = 0
members_in answer.ShortRecord = 0
members_in answer.Illegal = 0
members_in answer.ShortList = 0

unfoldable pub refusals_in : Answer → ℕ
refusals_in a = cond (illegal_answer a) 1 0

-- the most members that a row of a kind can have
unfoldable pub most_by : Kind → ℕ → ℕ
most_by (Multiple Bits) w = w
most_by (Multiple (Fields n b)) w = n
most_by Single w = 0
most_by (Quantity f) w = 0
most_by Character w = 0
most_by Logical w = 0

abbrev pub most_of : Row → ℕ
most_of r = most_by r.kind r.width

-- what reading the rows of a tested table leaves
pub record RowsRead (t : List ℤ) (v : ℕ) (bytes : List ℕ) (out out' list list' : List ℤ) (y : Tally) : Type 0 where
  pub members : y.members ≡ length (members_below (row_reading t v bytes) v)
  pub refused : y.refused ≡ refused_below (row_reading t v bytes) v
  pub rows : out' ≡ filled_of (cells_below t v bytes v) out
  pub sets : list' ≡ filled_of (members_below (row_reading t v bytes) v) list
