-- The matrix of a file, for C and Rust: "Done: [0, total, R, C]; 80 to 82: zeros behind"; the file's own refusal as for judging it.
use Rattle.std.specs.Prelude.{List, ℕ, ℤ}
use Rattle.matrices.specs.rule.Matrix.{MatrixVerdict, refused_as, refused, written, MatrixWritten}
use Rattle.zarfolin.specs.declared.Told.{Told}
use Rattle.zarfolin.specs.rule.Face.{four, told_alone, file_cells, Telling}
use Rattle.record_values.specs.rule.Record.{cell_of}

unfoldable pub matrix_cells : MatrixVerdict → Told
matrix_cells (refused_as v) = file_cells v
matrix_cells (refused k) = told_alone k
matrix_cells (written total records columns) = four 0 (cell_of total) (cell_of records) (cell_of columns)

-- THE PROMISE of writing a matrix: that of the call, and its outcome told in four numbers
pub record MatrixTold (t : List ℤ) (d out out' : List ℕ) (answer : List ℤ) (r : ℕ) : Type 0 where
  pub outcome : MatrixVerdict
  pub promise : MatrixWritten t d out out' outcome
  pub tells : Telling (matrix_cells outcome) answer r
