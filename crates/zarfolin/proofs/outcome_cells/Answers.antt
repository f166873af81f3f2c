-- `zarfolin::outcome_cells` meets its contract, case by case.
use mathlib.Core.Path.{◌≡◌, sym}
use mir.Syntax.{w64}
use mir.Val.{to_z, of_z}
use borrow.Author.Rules.{rules, sfits_of}
use mir.Facts.{to_z-of_z}
use Rattle.zarfolin.specs.rule.Face.{outcome_cells}
use Rattle.records.specs.rule.Value.{said}
use Rattle.zarfolin.proofs.outcome_cells.Goals as goal
use Rattle.zarfolin.proofs.outcome_cells.Goals.{In-Number}

-- the number read is read back from its bits as it is
back : (c : In-Number) → to_z w64 (of_z w64 c.in-Number.z) ≡ c.in-Number.z
back c = search rules

pub returns-in-Missing : goal.returns-in-Missing
unfolding outcome_cells said
returns-in-Missing c = rw (c.in-Missing.is, sym c.bare.ensures)

pub returns-in-Number : goal.returns-in-Number
unfolding outcome_cells said
returns-in-Number c = rw (c.in-Number.is, c.value_told.ensures, back (goal.at.returns-in-Number c).In-Number)

pub returns-in-Set : goal.returns-in-Set
unfolding outcome_cells said
returns-in-Set c = rw (
  c.in-Set.is,
  c.value_told-in-Set.ensures,
  to_z-of_z (sfits_of c.cell.type_inv),
  c.cell.ensures,
)

pub returns-in-Text : goal.returns-in-Text
unfolding outcome_cells said
returns-in-Text c = rw (
  c.in-Text.is,
  c.value_told-in-Text.ensures,
  to_z-of_z (sfits_of c.cell-in-Text.type_inv),
  to_z-of_z (sfits_of c.cell-in-Text-2.type_inv),
  c.cell-in-Text.ensures,
  c.cell-in-Text-2.ensures,
)

pub returns-in-Truth : goal.returns-in-Truth
unfolding outcome_cells said
returns-in-Truth c = rw (
  c.in-Truth.is,
  c.value_told-in-Truth.ensures,
  to_z-of_z (sfits_of c.flag.type_inv),
  c.flag.ensures,
)

pub returns-in-BadTable : goal.returns-in-BadTable
unfolding outcome_cells said
returns-in-BadTable c = rw (c.in-BadTable.is, sym c.bare-in-BadTable.ensures)

pub returns-in-NoRow : goal.returns-in-NoRow
unfolding outcome_cells said
returns-in-NoRow c = rw (c.in-NoRow.is, sym c.bare-in-NoRow.ensures)

pub returns-in-ShortRecord : goal.returns-in-ShortRecord
unfolding outcome_cells said
returns-in-ShortRecord c = rw (c.in-ShortRecord.is, sym c.bare-in-ShortRecord.ensures)

pub returns-in-ShortList : goal.returns-in-ShortList
unfolding outcome_cells said
returns-in-ShortList c = rw (c.in-ShortList.is, sym c.bare-in-ShortList.ensures)

pub returns-in-Faulty : goal.returns-in-Faulty
unfolding outcome_cells said
returns-in-Faulty c = rw (
  c.in-Faulty.is,
  c.with_one.ensures,
  to_z-of_z (sfits_of c.fault_cell.type_inv),
  c.fault_cell.ensures,
  c.fault_number.ensures,
)
