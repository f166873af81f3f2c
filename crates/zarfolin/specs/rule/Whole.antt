-- Reading a whole record, for C and Rust: "answer: number, members in the list, rows refused, 0"; on a refusal zeros behind the number.
use Rattle.std.specs.Prelude.{List, ℕ, ℤ, pos}
use Rattle.record_values.specs.declared.Whole.{Whole}
use Rattle.record_values.specs.declared.Whole.TheVariants as whole
use Rattle.record_values.specs.rule.Record.{RecordRead, cell_of}
use Rattle.zarfolin.specs.declared.Told.{Told}
use Rattle.zarfolin.specs.rule.Face.{four, told_alone, Telling}

unfoldable pub whole_cells : Whole → Told
whole_cells (whole.Read m k) = four 0 (cell_of m) (cell_of k) (pos 0)
whole_cells whole.BadTable = told_alone 20
whole_cells whole.ShortRecord = told_alone 22
whole_cells whole.ShortRoom = told_alone 25

-- THE PROMISE of reading a whole record: that of the call, and its outcome told in four numbers
pub record WholeTold (t : List ℤ) (bytes : List ℕ) (out out' list list' answer : List ℤ) (r : ℕ) : Type 0 where
  pub outcome : Whole
  pub promise : RecordRead t bytes out out' list list' outcome
  pub tells : Telling (whole_cells outcome) answer r
