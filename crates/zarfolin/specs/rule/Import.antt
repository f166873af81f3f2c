-- An import, for C and Rust: "[0, records, length, 0]"; 61 to 64 with line and column; 20, 40, 90 and 60 "tell zeros behind the number".
use Rattle.std.specs.Prelude.{List, ℕ, ℤ, pos}
use Rattle.imports.specs.rule.Import.{ImportVerdict, refused, written, Imported}
use Rattle.zarfolin.specs.declared.Told.{Told}
use Rattle.zarfolin.specs.rule.Face.{four, Telling}
use Rattle.record_values.specs.rule.Record.{cell_of}

unfoldable pub import_cells : ImportVerdict → Told
import_cells (refused k n c) = four k (cell_of n) (cell_of c) (pos 0)
import_cells (written n m) = four 0 (cell_of n) (cell_of m) (pos 0)

-- THE PROMISE of an import: that of the call, and its outcome told in four numbers
pub record ImportTold (def : List ℕ) (t : List ℤ) (s out out' : List ℕ) (answer : List ℤ) (r : ℕ) : Type 0 where
  pub outcome : ImportVerdict
  pub promise : Imported def t s out out' outcome
  pub tells : Telling (import_cells outcome) answer r
