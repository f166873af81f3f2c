-- THE WRITE of one row's value, on all input: the refusal's number, and the record afterwards.
use Rattle.std.specs.Prelude.{◌≡◌, cond, List, ℕ, eqb, leb, ltb, ℤ, length}
use Rattle.layout.specs.rule.Row.{row_at}
use Rattle.fields.specs.rule.Field.{Value}
use Rattle.fields.specs.rule.Row.{Fit, fits, other_type, not_legal, too_many, fit_of, written_of}
use Rattle.sound.specs.rule.Sound.{well_formed}
use Rattle.sound.specs.rule.Rows.{rows_of, length_of}
use Rattle.writes.specs.declared.Wrote.{Wrote}
use Rattle.writes.specs.declared.Wrote.TheVariants.{Done, NotWellFormed, NoRow, TooShort, OtherType, NotLegal, TooMany}

-- document 01's number for each answer, and 0 for a write that is done
unfoldable pub write_number : Wrote → ℕ
write_number Done = 0
write_number NotWellFormed = 20
write_number NoRow = 21
write_number TooShort = 22
write_number OtherType = 26
write_number NotLegal = 27
write_number TooMany = 28

-- the numbers of a value that does not fit
unfoldable pub fit_number : Fit → ℕ
fit_number fits = 0
fit_number other_type = 26
fit_number not_legal = 27
fit_number too_many = 28

-- the lowest number that names a fault, and 0 where there is none: of the record the length n alone is asked
unfoldable pub refusal_of : List ℤ → ℕ → Value → ℕ → ℕ
refusal_of t i x n =
    cond (well_formed t)
    (cond (leb (rows_of t) i) 21 (cond (ltb n (length_of t)) 22 (fit_number (fit_of t (rows_of t) (row_at t i) x))))
    20

-- the record afterwards: a write without fault puts the value's bytes at the row's value places, a refusal keeps the record
unfoldable pub record_after : List ℤ → ℕ → Value → List ℕ → List ℕ
record_after t i x old = cond (eqb (refusal_of t i x (length old)) 0) (written_of t (rows_of t) (row_at t i) x old) old

-- THE PROMISE of the call: the number, and the record afterwards
pub record Written (t : List ℤ) (i : ℕ) (x : Value) (old new : List ℕ) (number : ℕ) : Type 0 where
  pub says : number ≡ refusal_of t i x (length old)
  pub leaves : new ≡ record_after t i x old
