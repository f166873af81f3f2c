-- A clean definition written, for C and Rust: "[number, place, length, 0]": the place of 2 to 9, the length where it was written.
use Rattle.std.specs.Prelude.{List, ℕ, ℤ, pos}
use Rattle.clean.specs.declared.Written.{Written}
use Rattle.clean.specs.declared.Written.TheVariants as written
use Rattle.clean.specs.rule.Written.{DefinitionWritten}
use Rattle.zarfolin.specs.declared.Told.{Told}
use Rattle.zarfolin.specs.rule.Face.{four, Telling}
use Rattle.record_values.specs.rule.Record.{cell_of}

unfoldable pub clean_cells : Written → Told
clean_cells (written.Done n) = four 0 (pos 0) (cell_of n) (pos 0)
clean_cells (written.Refused n p) = four n (cell_of p) (pos 0) (pos 0)

-- THE PROMISE of writing a clean definition: that of the call, and its outcome told in four numbers
pub record CleanTold (d : List ℕ) (t : List ℤ) (out out' : List ℕ) (answer : List ℤ) (r : ℕ) : Type 0 where
  pub outcome : Written
  pub promise : DefinitionWritten d t out out' outcome
  pub tells : Telling (clean_cells outcome) answer r
