-- `zarfolin::matrix_cells` meets its contract, case by case.
use mathlib.Core.Path.{sym}
use borrow.Author.Rules.{sfits_of}
use mir.Facts.{to_z-of_z}
use Rattle.matrices.specs.rule.Matrix.{matrix_said}
use Rattle.zarfolin.specs.rule.Matrix.{matrix_cells}
use Rattle.zarfolin.proofs.matrix_cells.Goals as goal

pub returns-in-Refused : goal.returns-in-Refused
unfolding matrix_cells matrix_said
returns-in-Refused c = rw (c.in-Refused.is, sym c.file_cells.ensures)

pub returns-in-NoColumn : goal.returns-in-NoColumn
unfolding matrix_cells matrix_said
returns-in-NoColumn c = rw (c.in-NoColumn.is, sym c.bare.ensures)

pub returns-in-TooLarge : goal.returns-in-TooLarge
unfolding matrix_cells matrix_said
returns-in-TooLarge c = rw (c.in-TooLarge.is, sym c.bare-in-TooLarge.ensures)

pub returns-in-ShortRoom : goal.returns-in-ShortRoom
unfolding matrix_cells matrix_said
returns-in-ShortRoom c = rw (c.in-ShortRoom.is, sym c.bare-in-ShortRoom.ensures)

pub returns-in-Written : goal.returns-in-Written
unfolding matrix_cells matrix_said
returns-in-Written c = rw (
  c.in-Written.is,
  to_z-of_z (sfits_of c.cell.type_inv),
  to_z-of_z (sfits_of c.cell-in-Written.type_inv),
  to_z-of_z (sfits_of c.cell-in-Written-2.type_inv),
  c.cell.ensures,
  c.cell-in-Written.ensures,
  c.cell-in-Written-2.ensures,
)
