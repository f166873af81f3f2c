-- A definition and a lent table: "1 is first of all", 2 to 8 as they are met, "9 (earliest place) after `END SSS`, then 10. .. Every
-- refusal keeps all lent memory." What was read is the table of its survey, at the start of the lent one: "Numbers beyond 6 + 18V + 4E are
-- kept", 6 + 20V + 4E since C-15.
use Rattle.std.specs.Prelude.{◌≡◌, Bool, cond, List, [], ◌∷◌, map, ℕ, zero, suc, ◌-◌, ltb, ℤ, length}
use Rattle.cells.specs.rule.Cell.{pasted}
use Rattle.signs.specs.declared.Sign.{Sign}
use Rattle.scan.specs.rule.Text.{text}
use Rattle.marks.specs.declared.Inside.TheVariants.{Plain}
use Rattle.marks.specs.rule.Spelling.{decode_of}
use Rattle.names.specs.rule.Standard.{name_fault}
use Rattle.survey.specs.rule.Survey.{Variable, Survey}
use Rattle.survey.specs.rule.Table.{lines_all, table_of}
use Rattle.reading.specs.rule.Result.{Result, Is, Not}
use Rattle.reading.specs.rule.Whole.{survey_of}
use Rattle.definition.specs.declared.Answer.{Answer}
use Rattle.definition.specs.declared.Answer.TheVariants as answer

pub data SssOutcome : Type 0 where
  Built : List Variable → SssOutcome
  Refusal : ℕ → ℕ → SssOutcome

-- "10 lent table too short": of n numbers
unfoldable pub sss_fitting : ℕ → List Variable → SssOutcome
sss_fitting n l = cond (ltb n (length (table_of l))) (Refusal 10 0) (Built l)

-- "With STANDARD NAMES, each decoded name ..", in the order of the file
unfoldable pub names_of : List ℕ → List Variable → List (List Sign)
names_of d l = map (λ v. decode_of Plain 0 (text d v.name.place)) l

-- "Refusal 9 stands at the opening quote of the name at fault": of name i
unfoldable pub quote_at : List Variable → ℕ → ℕ
quote_at [] i = 0
quote_at (v ∷ l) zero = v.name.place - 1
quote_at (v ∷ l) (suc i) = quote_at l i

unfoldable pub judge_names : List ℕ → ℕ → Bool → List Variable → SssOutcome
judge_names d n standard l =
    let i = name_fault (names_of d l) in
    cond standard (cond (ltb i (length l)) (Refusal 9 (quote_at l i)) (sss_fitting n l)) (sss_fitting n l)

abbrev pub sss_settled : List ℕ → ℕ → Result Survey → SssOutcome
sss_settled d n (Is s m) = judge_names d n s.heading.standard s.variables
sss_settled d n (Not f) = Refusal f.number f.place

unfoldable pub sss_outcome : List ℕ → ℕ → SssOutcome
sss_outcome d n = cond (ltb 1048576 (length d)) (Refusal 1 0) (sss_settled d n (survey_of d))

-- ---- what the call answers, and what the table then holds
unfoldable pub sss_answer : SssOutcome → Answer
sss_answer (Built l) = answer.Read (length l) (lines_all l)
sss_answer (Refusal number place) = answer.Refused number place

unfoldable pub sss_table_after : SssOutcome → List ℤ → List ℤ
sss_table_after (Built l) t = pasted t 0 (table_of l)
sss_table_after (Refusal number place) t = t

-- THE PROMISE of the call, whose answer holds document 01's number and place: the answer, and the table afterwards
pub record SssRead (d : List ℕ) (t t' : List ℤ) (a : Answer) : Type 0 where
  pub says : a ≡ sss_answer (sss_outcome d (length t))
  pub leaves : t' ≡ sss_table_after (sss_outcome d (length t)) t
