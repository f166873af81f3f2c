-- `record_values::four` meets its contract, case by case.
use mathlib.Core.Path.{◌≡◌}
use mir.Syntax.{w64}
use mir.Val.{to_z, of_z}
use mir.Facts.{to_z-of_z}
use borrow.Author.Rules.{rules, sfits_of}
use Rattle.records.specs.rule.Value.{said}
use Rattle.record_values.specs.rule.Record.{four_of, cell_of}
use Rattle.record_values.proofs.four.Goals as goal
use Rattle.record_values.proofs.four.Goals.{In-Number}

-- the number read is read back from its bits as it is
back : (c : In-Number) → to_z w64 (of_z w64 c.in-Number.z) ≡ c.in-Number.z
back c = search rules

-- a fault's number, and its place or number
pub returns-in-Faulty : goal.returns-in-Faulty
unfolding four_of said
returns-in-Faulty c =
    rw (
      c.in-Faulty.is,
      to_z-of_z (sfits_of c.cell-in-Faulty.type_inv),
      to_z-of_z (sfits_of c.fault_cell.type_inv),
      c.cell-in-Faulty.ensures,
      c.fault_cell.ensures,
      c.fault_number.ensures,
    )

pub returns-in-Missing : goal.returns-in-Missing
unfolding four_of said cell_of
returns-in-Missing c = rw c.in-Missing.is

pub returns-in-Number : goal.returns-in-Number
unfolding four_of said cell_of
returns-in-Number c = rw (c.in-Number.is, back c)

pub returns-in-Set : goal.returns-in-Set
unfolding four_of said cell_of
returns-in-Set c = rw (
  c.in-Set.is,
  to_z-of_z (sfits_of c.cell.type_inv),
  to_z-of_z (sfits_of c.cell-in-Set.type_inv),
  c.cell.ensures,
  c.cell-in-Set.ensures,
)

pub returns-in-Text : goal.returns-in-Text
unfolding four_of said cell_of
returns-in-Text c = rw (
  c.in-Text.is,
  to_z-of_z (sfits_of c.cell-in-Text.type_inv),
  to_z-of_z (sfits_of c.cell-in-Text-2.type_inv),
  c.cell-in-Text.ensures,
  c.cell-in-Text-2.ensures,
)

pub returns-in-Truth : goal.returns-in-Truth
unfolding four_of said cell_of
returns-in-Truth c = rw (c.in-Truth.is, to_z-of_z (sfits_of c.flag.type_inv), c.flag.ensures)

pub returns-in-BadTable : goal.returns-in-BadTable
unfolding four_of said cell_of
returns-in-BadTable c = rw c.in-BadTable.is

pub returns-in-NoRow : goal.returns-in-NoRow
unfolding four_of said cell_of
returns-in-NoRow c = rw c.in-NoRow.is

pub returns-in-ShortRecord : goal.returns-in-ShortRecord
unfolding four_of said cell_of
returns-in-ShortRecord c = rw c.in-ShortRecord.is

pub returns-in-ShortList : goal.returns-in-ShortList
unfolding four_of said cell_of
returns-in-ShortList c = rw c.in-ShortList.is
