-- `zarfolin::row_cells` meets its contract.
use borrow.Author.Rules.{sfits_of}
use mir.Facts.{to_z-of_z}
use Rattle.zarfolin.proofs.row_cells.Goals as goal

pub returns : goal.returns
returns c = rw (
  to_z-of_z (sfits_of c.cell.type_inv),
  to_z-of_z (sfits_of c.fault_cell.type_inv),
  c.cell.ensures,
  c.fault_cell.ensures,
  c.fault_number.ensures,
)
