-- `columns::number_entry` meets its contract, case by case.
-- Assumes nothing.
use mathlib.Core.Path.{◌≡◌}
use borrow.Author.Rules.{rules}
use mir.Syntax.{w64}
use mir.Val.{to_z, of_z}
use Rattle.columns.specs.Marked.{answer_entry}
use Rattle.columns.proofs.number_entry.Goals as goal
use Rattle.columns.proofs.number_entry.Goals.{In-Number}

-- the number is read back from its bits as it is
back : (c : In-Number) → to_z w64 (of_z w64 c.in-Number.z) ≡ c.in-Number.z
back c = search rules

pub returns-then-b : goal.returns-then-b
unfolding answer_entry
returns-then-b c = rw (c.in-Truth.is, c.if-b.true)

pub returns-in-Missing : goal.returns-in-Missing
unfolding answer_entry
returns-in-Missing c = rw c.in-Missing.is

pub returns-in-Number : goal.returns-in-Number
unfolding answer_entry
returns-in-Number c = rw (c.in-Number.is, back c)

pub returns-in-Set : goal.returns-in-Set
unfolding answer_entry
returns-in-Set c = rw c.in-Set.is

pub returns-in-Text : goal.returns-in-Text
unfolding answer_entry
returns-in-Text c = rw c.in-Text.is

pub returns-else-b : goal.returns-else-b
unfolding answer_entry
returns-else-b c = rw (c.in-Truth.is, c.if-b.false)

pub returns-in-BadTable : goal.returns-in-BadTable
unfolding answer_entry
returns-in-BadTable c = rw c.in-BadTable.is

pub returns-in-NoRow : goal.returns-in-NoRow
unfolding answer_entry
returns-in-NoRow c = rw c.in-NoRow.is

pub returns-in-ShortRecord : goal.returns-in-ShortRecord
unfolding answer_entry
returns-in-ShortRecord c = rw c.in-ShortRecord.is

pub returns-in-Illegal : goal.returns-in-Illegal
unfolding answer_entry
returns-in-Illegal c = rw c.in-Illegal.is

pub returns-in-ShortList : goal.returns-in-ShortList
unfolding answer_entry
returns-in-ShortList c = rw c.in-ShortList.is
