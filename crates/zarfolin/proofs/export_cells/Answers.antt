-- `zarfolin::export_cells` meets its contract, case by case.
use mathlib.Core.Path.{sym}
use Rattle.exports.specs.rule.Text.{export_said}
use Rattle.zarfolin.specs.rule.Export.{export_cells}
use Rattle.zarfolin.proofs.export_cells.Goals as goal

pub returns-in-BadTable : goal.returns-in-BadTable
unfolding export_cells export_said
returns-in-BadTable c = rw (c.in-BadTable.is, sym c.bare.ensures)

pub returns-in-OtherTable : goal.returns-in-OtherTable
unfolding export_cells export_said
returns-in-OtherTable c = rw (c.in-OtherTable.is, sym c.bare-in-OtherTable.ensures)

pub returns-in-ShortRoom : goal.returns-in-ShortRoom
unfolding export_cells export_said
returns-in-ShortRoom c = rw (c.in-ShortRoom.is, sym c.bare-in-ShortRoom.ensures)

pub returns-in-Written : goal.returns-in-Written
unfolding export_cells export_said
returns-in-Written c = rw (c.in-Written.is, sym c.file_cells.ensures)
