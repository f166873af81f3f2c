-- `zarfolin::whole_cells` meets its contract, case by case.
use mathlib.Core.Path.{sym}
use borrow.Author.Rules.{sfits_of}
use mir.Facts.{to_z-of_z}
use Rattle.zarfolin.specs.rule.Whole.{whole_cells}
use Rattle.zarfolin.proofs.whole_cells.Goals as goal

pub returns-in-Read : goal.returns-in-Read
unfolding whole_cells
returns-in-Read c = rw (
  c.in-Read.is,
  to_z-of_z (sfits_of c.cell.type_inv),
  to_z-of_z (sfits_of c.cell-in-Read.type_inv),
  c.cell.ensures,
  c.cell-in-Read.ensures,
)

pub returns-in-BadTable : goal.returns-in-BadTable
unfolding whole_cells
returns-in-BadTable c = rw (c.in-BadTable.is, sym c.bare.ensures)

pub returns-in-ShortRecord : goal.returns-in-ShortRecord
unfolding whole_cells
returns-in-ShortRecord c = rw (c.in-ShortRecord.is, sym c.bare-in-ShortRecord.ensures)

pub returns-in-ShortRoom : goal.returns-in-ShortRoom
unfolding whole_cells
returns-in-ShortRoom c = rw (c.in-ShortRoom.is, sym c.bare-in-ShortRoom.ensures)
