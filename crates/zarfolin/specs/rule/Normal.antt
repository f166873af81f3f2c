-- One normal form of a record, for C and Rust: 90 with zeros behind it where two rows share a value place, else the numbers of judging
-- the record; the record afterwards is what the call leaves.
use Rattle.std.specs.Prelude.{List, ℕ, ℤ}
use Rattle.records.specs.rule.Verdict.{Verdict}
use Rattle.normal.specs.rule.Normal.{Normalised}
use Rattle.zarfolin.specs.rule.Face.{verdict_cells, Telling}

-- THE PROMISE of the normal form: that of the call, and its outcome told in four numbers
pub record NormalTold (t : List ℤ) (old new : List ℕ) (answer : List ℤ) (r : ℕ) : Type 0 where
  pub outcome : Verdict
  pub promise : Normalised t old new outcome
  pub tells : Telling (verdict_cells outcome) answer r
