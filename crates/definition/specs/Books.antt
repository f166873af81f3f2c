-- THE CODE'S BOOKS of a definition as a whole, which the contracts inside this crate name: the readers that the crates below promise, one
-- after the other. proofs/Bridge shows that they say what rule/Definition says, which alone the public call cites.
use Rattle.std.specs.Prelude.{Bool, cond, List, [], ◌∷◌, ◌++◌, ℕ, zero, suc, ◌-◌, ltb, ℤ, length, Ok, Err}
use Rattle.cells.specs.rule.Cell.{pasted}
use Rattle.signs.specs.declared.Sign.{Sign}
use Rattle.scan.specs.rule.Text.{text}
use Rattle.scan.specs.rule.Loop.{Next, Again, Done, loop_of}
use Rattle.marks.specs.declared.Inside.TheVariants.{Plain}
use Rattle.marks.specs.rule.Spelling.{decode_of}
use Rattle.tokens.specs.declared.Fault.{Fault}
use Rattle.tokens.specs.declared.Choice.{Choice}
use Rattle.tokens.specs.declared.Choice.TheVariants.{Taken, Left}
use Rattle.tokens.specs.rule.Gap.{fault, OrFault}
use Rattle.tokens.specs.Token.{choice_of, word_on}
use Rattle.statements.specs.rule.Words.{END, RECORD, SURVEY, SSS}
use Rattle.statements.specs.Note.{notes_on, statement_on}
use Rattle.heading.specs.declared.Front.{Front}
use Rattle.heading.specs.Heading.{front_on}
use Rattle.names.specs.rule.Standard.{name_fault}
use Rattle.measures.specs.Survey.{Variable, lines_all, ident_met, table_of}
use Rattle.entries.specs.Entry.{Entry, entry_of}
use Rattle.entries.specs.Entry as entry
use Rattle.definition.specs.declared.Answer.{Answer}
use Rattle.definition.specs.declared.Answer.TheVariants as answer

-- ---- the variables
-- all of them, and the place after the END behind them; or a refusal
pub data Variables : Type 0 where
  Is : List Variable → ℕ → Variables
  Not : Fault → Variables

-- where the reader of variables stands, and those before
pub record Course : Type 0 where
  pub at : OrFault ℕ
  pub earlier : List Variable

abbrev pub course : OrFault ℕ → List Variable → Course
course t l = record { at = t; earlier = l }

-- another variable, or END
abbrev pub end_or : List Variable → OrFault ℕ → Choice → Next Course Variables
end_or l t (Taken m) = Done (Is l m)
end_or l t Left = Again (course t l)

abbrev pub entered : List ℕ → List Variable → Entry → Next Course Variables
entered d l (entry.Is v n) = end_or (l ++ v ∷ []) (notes_on d (Ok n)) (choice_of d (notes_on d (Ok n)) END)
entered d l (entry.Not f) = Done (Not f)

unfoldable pub variable_step : List ℕ → Course → Next Course Variables
variable_step d s = entered d s.earlier (entry_of d s.at (ident_met s.earlier) (length s.earlier) (lines_all s.earlier))

-- and so on; the 513th is refused
unfoldable pub variables_from : List ℕ → Course → Variables
variables_from d s = loop_of (variable_step d) (Not (fault 0 0)) (suc (512 - length s.earlier)) s

-- ---- END RECORD, END SURVEY, END SSS, behind the first END
unfoldable pub ends_on : List ℕ → ℕ → OrFault ℕ
ends_on d m =
    let recorded = word_on d (Ok m) RECORD in
    let surveyed = word_on d (statement_on d recorded END) SURVEY in
    word_on d (statement_on d surveyed END) SSS

-- ---- a survey: whether STANDARD NAMES holds and the texts of the heading, and the variables
pub record Survey : Type 0 where
  pub front : Front
  pub variables : List Variable

pub data Read : Type 0 where
  Whole : Survey → Read
  Faulty : Fault → Read

abbrev pub ended : Front → List Variable → OrFault ℕ → Read
ended f l (Ok n) = Whole (record { front = f; variables = l })
ended f l (Err g) = Faulty g

abbrev pub closed : List ℕ → Front → Variables → Read
closed d f (Is l m) = ended f l (ends_on d m)
closed d f (Not g) = Faulty g

unfoldable pub survey_of : List ℕ → Read
survey_of d = closed d (front_on d) (variables_from d (course (front_on d).next []))

-- ---- STANDARD NAMES, judged after END SSS: 9 at the opening quote of the first name at fault
unfoldable pub names_of : List ℕ → List Variable → List (List Sign)
names_of d [] = []
names_of d (v ∷ l) = decode_of Plain 0 (text d v.head.name.place) ∷ names_of d l

-- the opening quote of name i
unfoldable pub quote_at : List Variable → ℕ → ℕ
quote_at [] i = 0
quote_at (v ∷ l) zero = v.head.name.place - 1
quote_at (v ∷ l) (suc i) = quote_at l i

-- ---- the outcome for a lent table of n numbers: 1 before all, 2 to 8 as they are met, then 9, then 10
pub data Outcome : Type 0 where
  Built : List Variable → Outcome
  Refusal : ℕ → ℕ → Outcome

-- 10 where the table is too short
unfoldable pub fitting : ℕ → List Variable → Outcome
fitting n l = cond (ltb n (length (table_of l))) (Refusal 10 0) (Built l)

unfoldable pub named : List ℕ → ℕ → Bool → List Variable → Outcome
named d n standard l =
    let i = name_fault (names_of d l) in
    cond standard (cond (ltb i (length l)) (Refusal 9 (quote_at l i)) (fitting n l)) (fitting n l)

abbrev pub judged : List ℕ → ℕ → Read → Outcome
judged d n (Whole s) = named d n s.front.heading.standard s.variables
judged d n (Faulty f) = Refusal f.number f.place

unfoldable pub outcome_in : List ℕ → ℕ → Outcome
outcome_in d n = cond (ltb 1048576 (length d)) (Refusal 1 0) (judged d n (survey_of d))

-- ---- what the call answers, and what the table then holds
unfoldable pub answer_in : Outcome → Answer
answer_in (Built l) = answer.Read (length l) (lines_all l)
answer_in (Refusal number place) = answer.Refused number place

unfoldable pub table_in : Outcome → List ℤ → List ℤ
table_in (Built l) t = pasted t 0 (table_of l)
table_in (Refusal number place) t = t
