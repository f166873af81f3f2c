-- `zarfolin::definition_cells` meets its contract, case by case.
use borrow.Author.Rules.{sfits_of}
use mir.Facts.{to_z-of_z}
use Rattle.zarfolin.specs.rule.Face.{definition_cells}
use Rattle.zarfolin.proofs.definition_cells.Goals as goal

pub returns-in-Read : goal.returns-in-Read
unfolding definition_cells
returns-in-Read c = rw (
  c.in-Read.is,
  to_z-of_z (sfits_of c.cell.type_inv),
  to_z-of_z (sfits_of c.cell-in-Read.type_inv),
  c.cell.ensures,
  c.cell-in-Read.ensures,
)

pub returns-in-Refused : goal.returns-in-Refused
unfolding definition_cells
returns-in-Refused c = rw (
  c.in-Refused.is,
  c.with_one.ensures,
  to_z-of_z (sfits_of c.cell-in-Refused.type_inv),
  c.cell-in-Refused.ensures,
)
