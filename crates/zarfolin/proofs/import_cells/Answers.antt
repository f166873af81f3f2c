-- `zarfolin::import_cells` meets its contract, case by case.
use borrow.Author.Rules.{sfits_of}
use mir.Facts.{to_z-of_z}
use Rattle.imports.specs.rule.Import.{import_said}
use Rattle.record_values.specs.rule.Record.{cell_of}
use Rattle.zarfolin.specs.rule.Import.{import_cells}
use Rattle.zarfolin.proofs.import_cells.Goals as goal

pub returns-in-BadTable : goal.returns-in-BadTable
unfolding import_cells import_said cell_of
returns-in-BadTable c = rw c.in-BadTable.is c.bare.ensures

pub returns-in-OtherTable : goal.returns-in-OtherTable
unfolding import_cells import_said cell_of
returns-in-OtherTable c = rw c.in-OtherTable.is c.bare-in-OtherTable.ensures

pub returns-in-SharedPlace : goal.returns-in-SharedPlace
unfolding import_cells import_said cell_of
returns-in-SharedPlace c = rw c.in-SharedPlace.is c.bare-in-SharedPlace.ensures

pub returns-in-Refused : goal.returns-in-Refused
unfolding import_cells import_said cell_of
returns-in-Refused c = rw (
  c.in-Refused.is,
  to_z-of_z (sfits_of c.cell.type_inv),
  to_z-of_z (sfits_of c.cell-in-Refused.type_inv),
  c.cell.ensures,
  c.cell-in-Refused.ensures,
)

pub returns-in-ShortRoom : goal.returns-in-ShortRoom
unfolding import_cells import_said cell_of
returns-in-ShortRoom c = rw c.in-ShortRoom.is c.bare-in-ShortRoom.ensures

pub returns-in-Written : goal.returns-in-Written
unfolding import_cells import_said cell_of
returns-in-Written c = rw (
  c.in-Written.is,
  to_z-of_z (sfits_of c.cell-in-Written.type_inv),
  to_z-of_z (sfits_of c.cell-in-Written-2.type_inv),
  c.cell-in-Written.ensures,
  c.cell-in-Written-2.ensures,
)
