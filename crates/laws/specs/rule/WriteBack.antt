-- WRITE-BACK over the calls: what a read answered, handed to the write call as a caller can hand it, is written, and every later read
-- answers the same.
use Rattle.std.specs.Prelude.{Bool, List, ℕ, ℤ, take, drop}
use Rattle.fields.specs.rule.Field.{Value, missing, number, members, text, truth}
use Rattle.records.specs.rule.Value.{Outcome, nothing, number_is, set_of, text_at, truth_is}

-- THE VALUE that an answer stands for, with the list after it and the record: missing; a number; the first n of the list; the n bytes of
-- the record at the place; a truth. A refusal stands for none.
pub data Answered (list : List ℤ) (bytes : List ℕ) : Outcome → Value → Type 0 where
  missing_answered : Answered list bytes nothing missing
  number_answered : {z : ℤ} → Answered list bytes (number_is z) (number z)
  set_answered : {n : ℕ} → Answered list bytes (set_of n) (members (take n list))
  text_answered : {p n : ℕ} → Answered list bytes (text_at p n) (text (take n (drop p bytes)))
  truth_answered : {b : Bool} → Answered list bytes (truth_is b) (truth b)
