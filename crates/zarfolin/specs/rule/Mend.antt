-- A data file mended, at the face (document 02, C-19): the number, how many bytes and entries were written, 0; on a refusal zeros behind
-- the
-- number.
use Rattle.std.specs.Prelude.{List, ℕ, ℤ, pos}
use Rattle.mends.specs.declared.Mended.{Mended}
use Rattle.mends.specs.rule.Mend.{MendAnswer, done, refused, mend_said, Mends}
use Rattle.zarfolin.specs.declared.Told.{Told}
use Rattle.zarfolin.specs.rule.Face.{four, told_alone, Telling}
use Rattle.record_values.specs.rule.Record.{cell_of}

unfoldable pub mend_cells : MendAnswer → Told
mend_cells (done b n) = four 0 (cell_of b) (cell_of n) (pos 0)
mend_cells (refused k) = told_alone k

-- THE PROMISE of mending a file: that of the call, and its outcome told in four numbers
pub record MendTold (t : List ℤ) (d out out' : List ℕ) (list list' answer : List ℤ) (r : ℕ) : Type 0 where
  pub outcome : Mended
  pub promise : Mends t d out out' list list' outcome
  pub tells : Telling (mend_cells (mend_said outcome)) answer r
