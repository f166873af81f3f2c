-- An export, for C and Rust: five numbers, judge_file's four and the length of the text that stands in the output; "20, 40, 60 .. tell
-- zeros
-- behind the number".
use Rattle.std.specs.Prelude.{◌≡◌, List, [], ◌∷◌, ℕ, ℤ, pos}
use Rattle.exports.specs.rule.Text.{ExportVerdict, refused, written}
use Rattle.exports.specs.rule.Export.{Exported}
use Rattle.zarfolin.specs.declared.Told.{Told}
use Rattle.zarfolin.specs.rule.Face.{told_alone, file_cells}
use Rattle.record_values.specs.rule.Record.{cell_of}

unfoldable pub export_cells : ExportVerdict → Told
export_cells (refused k) = told_alone k
export_cells (written v n) = file_cells v

unfoldable pub export_length : ExportVerdict → ℤ
export_length (refused k) = pos 0
export_length (written v n) = cell_of n

-- the answer holds the five numbers, and the first is given back
pub record TellingFive (c : Told) (n : ℤ) (answer : List ℤ) (r : ℕ) : Type 0 where
  pub holds : answer ≡ cell_of c.number ∷ c.first ∷ c.second ∷ c.third ∷ n ∷ []
  pub gives : r ≡ c.number

-- THE PROMISE of an export: that of the call, and its outcome told in five numbers
pub record ExportTold (def : List ℕ) (t : List ℤ) (d out out' : List ℕ) (answer : List ℤ) (r : ℕ) : Type 0 where
  pub outcome : ExportVerdict
  pub promise : Exported def t d out out' outcome
  pub tells : TellingFive (export_cells outcome) (export_length outcome) answer r
