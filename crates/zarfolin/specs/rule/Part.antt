-- A part of a file judged, for C and Rust: 29 where the number is no terminator's, with zeros behind it; else the numbers as for a file,
-- the records counted in the part.
use Rattle.std.specs.Prelude.{List, ℕ, ℤ}
use Rattle.parts.specs.rule.Part.{PartVerdict, no_terminator, judged_as, PartJudged}
use Rattle.zarfolin.specs.declared.Told.{Told}
use Rattle.zarfolin.specs.rule.Face.{told_alone, file_cells, Telling}

unfoldable pub part_cells : PartVerdict → Told
part_cells no_terminator = told_alone 29
part_cells (judged_as v) = file_cells v

-- THE PROMISE of judging a part: that of the call, and its outcome told in four numbers
pub record PartTold (t : List ℤ) (d : List ℕ) (terminator first last : ℕ) (answer : List ℤ) (r : ℕ) : Type 0 where
  pub outcome : PartVerdict
  pub promise : PartJudged t d terminator first last outcome
  pub tells : Telling (part_cells outcome) answer r
