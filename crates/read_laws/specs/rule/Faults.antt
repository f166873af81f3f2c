-- What is wrong with a field is told as one of three numbers: "241 stray byte, 242 not a legal value, 243 decimal point".
use Rattle.std.specs.Prelude.{ℕ, ℤ}
use Rattle.faults.specs.declared.Fault.{Fault}
use Rattle.faults.specs.declared.Fault.TheVariants.{Stray, NotLegal, Point}

pub data Told : Fault → ℕ → Type 0 where
  stray : {p : ℕ} → Told (Stray p) 241
  not_legal_lem : {z : ℤ} → Told (NotLegal z) 242
  point : {p : ℕ} → Told (Point p) 243
