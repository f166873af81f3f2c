-- `zarfolin::mend_cells` meets its contract, case by case.
use mathlib.Core.Path.{sym}
use borrow.Author.Rules.{sfits_of}
use mir.Facts.{to_z-of_z}
use Rattle.mends.specs.rule.Mend as mends
use Rattle.zarfolin.specs.rule.Mend.{mend_cells}
use Rattle.zarfolin.proofs.mend_cells.Goals as goal

pub returns-in-Done : goal.returns-in-Done
unfolding mend_cells mends.mend_said
returns-in-Done c = rw (
  c.in-Done.is,
  to_z-of_z (sfits_of c.cell.type_inv),
  to_z-of_z (sfits_of c.cell-in-Done.type_inv),
  c.cell.ensures,
  c.cell-in-Done.ensures,
)

pub returns-in-BadTable : goal.returns-in-BadTable
unfolding mend_cells mends.mend_said
returns-in-BadTable c = rw (c.in-BadTable.is, sym c.bare.ensures)

pub returns-in-NoRoom : goal.returns-in-NoRoom
unfolding mend_cells mends.mend_said
returns-in-NoRoom c = rw (c.in-NoRoom.is, sym c.bare-in-NoRoom.ensures)
