-- `records::with_fault` meets its contract, case by case.
use mathlib.Core.Path.{◌≡◌}
use mir.Syntax.{w64}
use mir.Val.{to_z, of_z}
use borrow.Author.Rules.{rules}
use Rattle.records.specs.rule.Value.{said}
use Rattle.records.specs.Value.{said_by}
use Rattle.records.proofs.with_fault.Goals as goal
use Rattle.records.proofs.with_fault.Goals.{In-Number}

-- the number read is read back from its bits as it is
back : (c : In-Number) → to_z w64 (of_z w64 c.in-Number.z) ≡ c.in-Number.z
back c = search rules

pub row_fault-requires : goal.row_fault-requires
unfolding said said_by
row_fault-requires c = c.requires

pub returns-in-Missing : goal.returns-in-Missing
unfolding said said_by
returns-in-Missing c = rw c.in-Missing.is

pub returns-in-Number : goal.returns-in-Number
unfolding said said_by
returns-in-Number c = rw (c.in-Number.is, back c)

pub returns-in-Set : goal.returns-in-Set
unfolding said said_by
returns-in-Set c = rw c.in-Set.is

pub returns-in-Text : goal.returns-in-Text
unfolding said said_by
returns-in-Text c = rw c.in-Text.is

pub returns-in-Truth : goal.returns-in-Truth
unfolding said said_by
returns-in-Truth c = rw c.in-Truth.is

pub returns-in-BadTable : goal.returns-in-BadTable
unfolding said said_by
returns-in-BadTable c = rw c.in-BadTable.is

pub returns-in-NoRow : goal.returns-in-NoRow
unfolding said said_by
returns-in-NoRow c = rw c.in-NoRow.is

pub returns-in-ShortRecord : goal.returns-in-ShortRecord
unfolding said said_by
returns-in-ShortRecord c = rw c.in-ShortRecord.is

pub returns-in-Illegal : goal.returns-in-Illegal
unfolding said said_by
returns-in-Illegal c = rw (c.in-Illegal.is, c.row_fault.ensures)

pub returns-in-ShortList : goal.returns-in-ShortList
unfolding said said_by
returns-in-ShortList c = rw c.in-ShortList.is
