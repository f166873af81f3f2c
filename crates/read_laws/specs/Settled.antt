-- "No two outcomes": each promise settles its answer and the list.
use Rattle.std.specs.Prelude.{◌≡◌, refl, cond, List, ℕ, eqb, ℤ}
use Rattle.std.proofs.Common.{sym, ap, ◌∙◌}
use Rattle.records.specs.rule.Value as value
use Rattle.records.specs.rule.Value.{Outcome, nothing, number_is, set_of, text_at, truth_is, refused, said, ValueRead}
use Rattle.records.specs.rule.Verdict as verdict
use Rattle.records.specs.rule.Verdict.{Verdict, sound, low_byte, bad_field, judged_as, RecordJudged}
use Rattle.records.specs.declared.Reading.{Reading}
use Rattle.records.specs.declared.Reading.TheVariants as reading
use Rattle.records.specs.declared.Judged.{Judged}
use Rattle.records.specs.declared.Judged.TheVariants as judged

-- the answer that says it
abbrev unsaid : Outcome → Reading
unsaid nothing = reading.Missing
unsaid (number_is z) = reading.Number z
unsaid (set_of n) = reading.Set n
unsaid (text_at p n) = reading.Text p n
unsaid (truth_is b) = reading.Truth b
unsaid (refused n) =
    cond (eqb n 20) reading.BadTable
    (cond (eqb n 21) reading.NoRow (cond (eqb n 22) reading.ShortRecord reading.ShortList))
unsaid (value.bad_field x) = reading.Faulty x

said_back : (a : Reading) → unsaid (said a) ≡ a
unfolding said
said_back reading.Missing = refl
said_back (reading.Number z) = refl
said_back (reading.Set n) = refl
said_back (reading.Text p n) = refl
said_back (reading.Truth b) = refl
said_back reading.BadTable = refl
said_back reading.NoRow = refl
said_back reading.ShortRecord = refl
said_back reading.ShortList = refl
said_back (reading.Faulty x) = refl

-- two answers that say the same are one
pub said_one : (a b : Reading) → said a ≡ said b → a ≡ b
said_one a b e = sym (said_back a) ∙ ap unsaid e ∙ said_back b

-- READING ONE ROW: one answer and one list
pub value_one : {t : List ℤ} {i : ℕ} {bytes : List ℕ} {list list₁ list₂ : List ℤ} {o₁ o₂ : Outcome}
    → ValueRead t i bytes list list₁ o₁ → ValueRead t i bytes list list₂ o₂ → (o₁ ≡ o₂) × (list₁ ≡ list₂)
value_one a b = (a.says ∙ sym b.says, a.leaves ∙ sym b.leaves)

pub value_settled : {t : List ℤ} {i : ℕ} {bytes : List ℕ} {list list₁ list₂ : List ℤ} (r₁ r₂ : Reading)
    → ValueRead t i bytes list list₁ (said r₁) → ValueRead t i bytes list list₂ (said r₂) → (r₁ ≡ r₂) × (list₁ ≡ list₂)
value_settled r₁ r₂ a b = let e = value_one a b in (said_one r₁ r₂ e.0, e.1)

abbrev unjudged : Verdict → Judged
unjudged sound = judged.Sound
unjudged (verdict.refused n) = cond (eqb n 20) judged.BadTable judged.ShortRecord
unjudged (low_byte p) = judged.LowByte p
unjudged (bad_field i x) = judged.Faulty i x

judged_back : (a : Judged) → unjudged (judged_as a) ≡ a
unfolding judged_as
judged_back judged.Sound = refl
judged_back judged.BadTable = refl
judged_back judged.ShortRecord = refl
judged_back (judged.LowByte p) = refl
judged_back (judged.Faulty i x) = refl

pub judged_one : (a b : Judged) → judged_as a ≡ judged_as b → a ≡ b
judged_one a b e = sym (judged_back a) ∙ ap unjudged e ∙ judged_back b

-- JUDGING A RECORD: one answer
pub verdict_one : {t : List ℤ} {bytes : List ℕ} {v₁ v₂ : Verdict} → RecordJudged t bytes v₁ → RecordJudged t bytes v₂ → v₁ ≡ v₂
verdict_one a b = a.says ∙ sym b.says

pub verdict_settled : {t : List ℤ} {bytes : List ℕ} (r₁ r₂ : Judged) → RecordJudged t bytes (judged_as r₁)
    → RecordJudged t bytes (judged_as r₂) → r₁ ≡ r₂
verdict_settled r₁ r₂ a b = judged_one r₁ r₂ (verdict_one a b)
