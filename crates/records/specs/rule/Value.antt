-- What reading one row answers, in the paper's numbers and values: refusals 20, 21, 22, what is wrong with the field, 25, in
-- this order; and the list after it.
use Rattle.std.specs.Prelude.{◌≡◌, Bool, cond, List, ℕ, ◌-◌, ltb, leb, ℤ, length}
use Rattle.layout.specs.rule.Row.{row_at}
use Rattle.fields.specs.rule.Field.{missing, number, members, text, truth, Field, holds, illegal}
use Rattle.fields.specs.rule.Row.{reading_of}
use Rattle.sets.specs.rule.Sets.{list_after}
use Rattle.faults.specs.declared.Fault.{Fault}
use Rattle.sound.specs.rule.Sound.{well_formed}
use Rattle.sound.specs.rule.Rows.{rows_of, length_of}
use Rattle.records.specs.rule.First.{row_fault}
use Rattle.records.specs.declared.Reading.{Reading}
use Rattle.records.specs.declared.Reading.TheVariants as reading

-- a row's value as it is given back: a set by the count of its members, which the list holds, a text by its place and length; or a refusal
pub data Outcome : Type 0 where
  nothing : Outcome
  number_is : ℤ → Outcome
  set_of : ℕ → Outcome
  text_at : ℕ → ℕ → Outcome
  truth_is : Bool → Outcome
  refused : ℕ → Outcome
  bad_field : Fault → Outcome

-- document 01's number and values for each case of the answer
unfoldable pub said : Reading → Outcome
said reading.Missing = nothing
said (reading.Number z) = number_is z
said (reading.Set n) = set_of n
said (reading.Text p n) = text_at p n
said (reading.Truth b) = truth_is b
said reading.BadTable = refused 20
said reading.NoRow = refused 21
said reading.ShortRecord = refused 22
said reading.ShortList = refused 25
said (reading.Faulty x) = bad_field x

-- a field whose first value place is p, read with room for n members: of an illegal one what is wrong with it; "set list shorter than
-- the set" is 25
unfoldable pub outcome_of : ℕ → ℕ → Fault → Field → Outcome
outcome_of p n x (holds missing) = nothing
outcome_of p n x (holds (number z)) = number_is z
outcome_of p n x (holds (members ms)) = cond (leb (length ms) n) (set_of (length ms)) (refused 25)
outcome_of p n x (holds (text s)) = text_at p (length s)
outcome_of p n x (holds (truth b)) = truth_is b
outcome_of p n x illegal = bad_field x

-- THE READING of row i by a table
abbrev pub reading_at : List ℤ → ℕ → List ℕ → Field
reading_at t i bytes = reading_of t (rows_of t) (row_at t i) bytes

-- what is answered, with room for n members
unfoldable pub read_as : List ℤ → ℕ → List ℕ → ℕ → Outcome
read_as t i bytes n =
    cond (well_formed t)
    (cond (ltb i (rows_of t))
    (cond (leb (length_of t) (length bytes))
    (outcome_of ((row_at t i).start - 1) n (row_fault t (rows_of t) bytes i) (reading_at t i bytes))
    (refused 22))
    (refused 21))
    (refused 20)

-- the list after it: changed only by a set that it has room for
unfoldable pub list_as : List ℤ → ℕ → List ℕ → List ℤ → List ℤ
list_as t i bytes list =
    cond (well_formed t)
    (cond (ltb i (rows_of t)) (cond (leb (length_of t) (length bytes)) (list_after (reading_at t i bytes) list) list) list) list

-- THE PROMISE of the call: its outcome, and the list after it
pub record ValueRead (t : List ℤ) (i : ℕ) (bytes : List ℕ) (list list' : List ℤ) (o : Outcome) : Type 0 where
  pub says : o ≡ read_as t i bytes (length list)
  pub leaves : list' ≡ list_as t i bytes list
