-- `zarfolin::next_cells` meets its contract, case by case.
use mathlib.Core.Path.{sym}
use borrow.Author.Rules.{sfits_of}
use mir.Facts.{to_z-of_z}
use Rattle.zarfolin.specs.rule.Face.{next_cells}
use Rattle.zarfolin.proofs.next_cells.Goals as goal

pub returns-in-Ended : goal.returns-in-Ended
unfolding next_cells
returns-in-Ended c = rw (
  c.in-Ended.is,
  to_z-of_z (sfits_of c.cell.type_inv),
  to_z-of_z (sfits_of c.cell-in-Ended.type_inv),
  to_z-of_z (sfits_of c.cell-in-Ended-2.type_inv),
  c.cell.ensures,
  c.cell-in-Ended.ensures,
  c.cell-in-Ended-2.ensures,
)

pub returns-in-Unended : goal.returns-in-Unended
unfolding next_cells
returns-in-Unended c = rw (
  c.in-Unended.is,
  to_z-of_z (sfits_of c.cell-in-Unended.type_inv),
  to_z-of_z (sfits_of c.cell-in-Unended-2.type_inv),
  to_z-of_z (sfits_of c.cell-in-Unended-3.type_inv),
  c.cell-in-Unended.ensures,
  c.cell-in-Unended-2.ensures,
  c.cell-in-Unended-3.ensures,
)

pub returns-in-Nothing : goal.returns-in-Nothing
unfolding next_cells
returns-in-Nothing c = rw (c.in-Nothing.is, sym c.bare.ensures)
