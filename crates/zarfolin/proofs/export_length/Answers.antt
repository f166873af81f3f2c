-- `zarfolin::export_length` meets its contract, case by case.
use borrow.Author.Rules.{sfits_of}
use mir.Facts.{to_z-of_z}
use Rattle.exports.specs.rule.Text.{export_said}
use Rattle.zarfolin.specs.rule.Export.{export_length}
use Rattle.zarfolin.proofs.export_length.Goals as goal

pub returns-in-BadTable : goal.returns-in-BadTable
unfolding export_length export_said
returns-in-BadTable c = rw c.in-BadTable.is

pub returns-in-OtherTable : goal.returns-in-OtherTable
unfolding export_length export_said
returns-in-OtherTable c = rw c.in-OtherTable.is

pub returns-in-ShortRoom : goal.returns-in-ShortRoom
unfolding export_length export_said
returns-in-ShortRoom c = rw c.in-ShortRoom.is

pub returns-in-Written : goal.returns-in-Written
unfolding export_length export_said
returns-in-Written c = rw (c.in-Written.is, to_z-of_z (sfits_of c.cell.type_inv), c.cell.ensures)
