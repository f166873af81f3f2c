-- `zarfolin::file_cells` meets its contract, case by case.
use mathlib.Core.Path.{sym}
use borrow.Author.Rules.{sfits_of}
use mir.Facts.{to_z-of_z}
use Rattle.zarfolin.specs.rule.Face.{fault_cells, file_cells}
use Rattle.records.specs.rule.Verdict.{verdict_number}
use Rattle.files.specs.rule.File.{file_said}
use Rattle.zarfolin.proofs.file_cells.Goals as goal

pub returns-in-Sound : goal.returns-in-Sound
unfolding file_cells file_said fault_cells verdict_number
returns-in-Sound c = rw (
  c.in-Sound.is,
  c.with_one.ensures,
  to_z-of_z (sfits_of c.cell.type_inv),
  c.cell.ensures,
)

pub returns-in-BadTable : goal.returns-in-BadTable
unfolding file_cells file_said fault_cells verdict_number
returns-in-BadTable c = rw (c.in-BadTable.is, sym c.bare.ensures)

pub returns-in-Unended : goal.returns-in-Unended
unfolding file_cells file_said fault_cells verdict_number
returns-in-Unended c = rw (
  c.in-Unended.is,
  c.with_one-in-Unended.ensures,
  to_z-of_z (sfits_of c.cell-in-Unended.type_inv),
  c.cell-in-Unended.ensures,
)

pub returns-in-OtherLength : goal.returns-in-OtherLength
unfolding file_cells file_said fault_cells verdict_number
returns-in-OtherLength c = rw (
  c.in-OtherLength.is,
  c.with_one-in-OtherLength.ensures,
  to_z-of_z (sfits_of c.cell-in-OtherLength.type_inv),
  c.cell-in-OtherLength.ensures,
)

pub returns-in-Fault : goal.returns-in-Fault
unfolding file_cells file_said fault_cells verdict_number
returns-in-Fault c = rw (c.in-Fault.is, sym c.fault_cells.ensures)
