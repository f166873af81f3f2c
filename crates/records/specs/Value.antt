-- What follows from rule/Value.antt, and what the code keeps.
use Rattle.std.specs.Prelude.{◌≡◌, refl, Bool, true, false, cond, ℕ, leb, length}
use Rattle.fields.specs.rule.Field.{Value, missing, number, members, text, truth, Field, holds, illegal}
use Rattle.readings.specs.Answer.{answer_of}
use Rattle.readings.specs.declared.Answer.{Answer}
use Rattle.readings.specs.declared.Answer.TheVariants as answer
use Rattle.faults.specs.declared.Fault.{Fault}
use Rattle.records.specs.rule.Value.{Outcome, nothing, number_is, set_of, text_at, truth_is, refused, bad_field, outcome_of}

-- what a reader's answer comes to, where x is what is wrong with an illegal field
unfoldable pub said_by : Fault → Answer → Outcome
said_by x answer.Missing = nothing
said_by x (answer.Number z) = number_is z
said_by x (answer.Set n) = set_of n
said_by x (answer.Text p n) = text_at p n
said_by x (answer.Truth b) = truth_is b
said_by x answer.BadTable = refused 20
said_by x answer.NoRow = refused 21
said_by x answer.ShortRecord = refused 22
said_by x answer.Illegal = bad_field x
said_by x answer.ShortList = refused 25

-- ---- laws
-- what is wrong with a field is of no account where it holds a value
pub held_outcome : (p n : ℕ) (a b : Fault) (x : Value) → outcome_of p n a (holds x) ≡ outcome_of p n b (holds x)
unfolding outcome_of
held_outcome p n a b missing = refl
held_outcome p n a b (number z) = refl
held_outcome p n a b (members ms) = refl
held_outcome p n a b (text s) = refl
held_outcome p n a b (truth c) = refl

pub said_answer : (p n : ℕ) (x : Fault) (f : Field) → said_by x (answer_of p n f) ≡ outcome_of p n x f
unfolding said_by answer_of outcome_of
said_answer p n x (holds missing) = refl
said_answer p n x (holds (number z)) = refl
said_answer p n x (holds (members ms)) = go (leb (length ms) n)
  where
    go : (c : Bool) → said_by x (cond c (answer.Set (length ms)) answer.ShortList) ≡ cond c (set_of (length ms)) (refused 25)
    go true = refl
    go false = refl
said_answer p n x (holds (text s)) = refl
said_answer p n x (holds (truth b)) = refl
said_answer p n x illegal = refl
