-- What a well-formed table gives for records of so many bytes: each of its rows stands in it and is ready to be read.
use Rattle.std.specs.Prelude.{◌≡◌, true, List, ℕ, ◌≤◌, ◌<◌, ℤ, length}
use Rattle.std.proofs.Common.{arith}
use Rattle.layout.specs.rule.Layout.{most_rows, lines_base}
use Rattle.layout.specs.rule.Row.{row_at}
use Rattle.readings.specs.Ready.{RowReady, ready_of}
use Rattle.sound.specs.rule.Sound.{well_formed}
use Rattle.sound.specs.rule.Rows.{rows_of, length_of}
use Rattle.sound.specs.Rows.{parts, row_facts}

pub record TableReady (t : List ℤ) (v size : ℕ) : Type 0 where
  pub few : v ≤ most_rows
  pub stand : lines_base v ≤ length t
  pub row : (i : ℕ) → i < v → RowReady t v (row_at t i) size

-- ---- laws
pub table_ready : (t : List ℤ) → well_formed t ≡ true → (size : ℕ) → length_of t ≤ size → TableReady t (rows_of t) size
table_ready t g size h =
    let s = (parts t g).standing in
    let w = s.stand in
    record { few = s.few_rows; stand = omega arith; row = λ i l. ready_of (row_facts t g i l) size h }
