-- `zarfolin::clean_cells` meets its contract, case by case.
use borrow.Author.Rules.{sfits_of}
use mir.Facts.{to_z-of_z}
use Rattle.zarfolin.specs.rule.Clean.{clean_cells}
use Rattle.zarfolin.proofs.clean_cells.Goals as goal

pub returns-in-Done : goal.returns-in-Done
unfolding clean_cells
returns-in-Done c = rw (c.in-Done.is, to_z-of_z (sfits_of c.cell.type_inv), c.cell.ensures)

pub returns-in-Refused : goal.returns-in-Refused
unfolding clean_cells
returns-in-Refused c = rw (
  c.in-Refused.is,
  c.with_one.ensures,
  to_z-of_z (sfits_of c.cell-in-Refused.type_inv),
  c.cell-in-Refused.ensures,
)
