-- `columns::list_read` meets its contract: what was read stands in the list.
-- Assumes nothing.
use mathlib.Core.Path.{◌≡◌, refl}
use mathlib.Core.Bool.{false}
use Prim.Native.Nat.{ℕ, ◌≤◌}
use native.Mathlib.Omega.{arith}
use lib.ListN.{length}
use Rattle.fields.specs.rule.Row.{reading_of}
use Rattle.readings.specs.declared.Answer.{Answer}
use Rattle.readings.specs.declared.Answer.TheVariants.{Missing, Number, Set, Text, Truth}
use Rattle.readings.specs.declared.Answer.TheVariants.{BadTable, NoRow, ShortRecord, Illegal, ShortList}
use Rattle.record_values.specs.Rows.{members_in}
use Rattle.record_values.specs.rule.Record.{members_of}
use Rattle.record_values.specs.Members.{row_many}
use Rattle.columns.specs.Reach.{readable_ready}
use Rattle.columns.specs.Marked.{is_set}
use Rattle.columns.specs.Listed.{lists_read}
use Rattle.columns.proofs.list_read.Goals as goal
use Rattle.columns.proofs.list_read.Goals.{After-read_row}

-- the list has room for the set
room : (c : After-read_row) → let a = c.args in
    length (members_of (reading_of a.t.now a.rows a.row a.bytes.now)) ≤ length a.list.now
room c =
    let a = c.args in
    omega (arith, row_many a.t.now a.rows a.row a.bytes.now (readable_ready c.requires.0), c.requires.1)

-- an answer that is no set
no_set : (a : Answer) → ((n : ℕ) → a ≡ Set n → ⊥) → (0 ≡ members_in a) × (false ≡ is_set a)
unfolding members_in is_set
no_set Missing h = (refl, refl)
no_set (Number z) h = (refl, refl)
no_set (Set n) h = absurd (h n refl)
no_set (Text p n) h = (refl, refl)
no_set (Truth b) h = (refl, refl)
no_set BadTable h = (refl, refl)
no_set NoRow h = (refl, refl)
no_set ShortRecord h = (refl, refl)
no_set Illegal h = (refl, refl)
no_set ShortList h = (refl, refl)

pub returns-in-Set : goal.returns-in-Set
unfolding members_in is_set
returns-in-Set c =
    lists_read c.read_row.ensures (room (goal.at.returns-in-Set c).After-read_row) (rw c.in-Set.is) (rw c.in-Set.is) c.read_row.auto.list

pub returns-in_default : goal.returns-in_default
returns-in_default c =
    let n = no_set _ c.in_default.not-Set in
    lists_read c.read_row.ensures (room (goal.at.returns-in_default c).After-read_row) n.0 n.1 c.read_row.auto.list

pub read_row-requires : goal.read_row-requires
read_row-requires c = readable_ready c.requires.0
