-- "Then `VERSION 1.1`; DATE, TIME, ORIGIN, USER, STANDARD NAMES in any order, each at most once; `SURVEY`; optional TITLE; `RECORD` and one
-- letter; one or more variables; `END RECORD`, `END SURVEY`, `END SSS`. What follows is ignored."
use Rattle.std.specs.Prelude.{Bool, cond, List, [], ◌∷◌, ◌++◌, ℕ, suc, eqb, length}
use Rattle.std.proofs.Math.Option.{Option, none, some}
use Rattle.layout.specs.rule.Layout.{most_rows}
use Rattle.scan.specs.rule.Text.{text, place_of}
use Rattle.scan.specs.rule.Loop.{Next, Again, Done}
use Rattle.statements.specs.rule.Words.{DATE, TIME, ORIGIN, USER, STANDARD, NAMES, SURVEY, TITLE, RECORD, SSS, END}
use Rattle.survey.specs.rule.Survey.{KeptText, Variable, Heading, Survey}
use Rattle.survey.specs.rule.Width.{some_of}
use Rattle.reading.specs.rule.Result.{Result, Reader, ◌>>=◌, ◌>>◌, give, due, repeat}
use Rattle.reading.specs.rule.Token.{either, here, word, string, letter}
use Rattle.reading.specs.rule.Opening.{opening}
use Rattle.reading.specs.rule.Statement.{notes, statement}
use Rattle.reading.specs.rule.Variable.{variable}

-- ---- the heading: statements by their words, 0 DATE, 1 TIME, 2 ORIGIN, 3 USER, 4 STANDARD NAMES, each with its text or none
pub record HeadingEntry : Type 0 where
  pub item : ℕ
  pub text : Option KeptText

abbrev pub entry : ℕ → Option KeptText → HeadingEntry
entry k t = record { item = k; text = t }

-- statement k is among those given before
unfoldable pub given : ℕ → List HeadingEntry → Bool
given k l = some_of (λ e. eqb k e.item) l

unfoldable pub entered_text : ℕ → List HeadingEntry → Option KeptText
entered_text k [] = none
entered_text k (e ∷ l) = cond (eqb k e.item) e.text (entered_text k l)

abbrev pub heading : List HeadingEntry → Option KeptText → ℕ → Heading
heading l title letter = record {
  date = entered_text 0 l;
  time = entered_text 1 l;
  origin = entered_text 2 l;
  user = entered_text 3 l;
  standard = given 4 l;
  title = title;
  letter = letter;
}

module _ (d : List ℕ) where
  abbrev pub texted : Reader (Option KeptText)
  texted = string d >>= λ t. give (some t)

  abbrev pub names : Reader (Option KeptText)
  names = word d NAMES >> give none

  -- the statement k, by its word w with p behind it, where it was not given before; a second one is 2 at its word. Or else q
  abbrev pub once : List HeadingEntry → ℕ → List ℕ → Reader (Option KeptText) → Reader (Next (List HeadingEntry) (List HeadingEntry))
      → Reader (Next (List HeadingEntry) (List HeadingEntry))
  once l k w p q n =
      either d w (cond (given k l) (λ m. due n) (p >>= λ t. notes d >> give (Again (entry k t ∷ l)))) q n

  unfoldable pub heading_entered : List HeadingEntry → Reader (Next (List HeadingEntry) (List HeadingEntry))
  heading_entered l =
      once l 0 DATE texted
      (once l 1 TIME texted
      (once l 2 ORIGIN texted
      (once l 3 USER texted
      (once l 4 STANDARD names
      (give (Done l))))))

  -- ---- "one or more variables": another one, or END
  unfoldable pub another_variable : List Variable → Reader (Next (List Variable) (List Variable))
  another_variable l = do
    v ← variable d l
    notes d
    either d END (give (Done (l ++ v ∷ []))) (give (Again (l ++ v ∷ [])))

  -- ---- the whole
  unfoldable pub front : Reader Heading
  front = do
    opening d
    notes d
    l ← repeat (suc (length d)) heading_entered []
    here d SURVEY
    notes d
    title ← either d TITLE texted (give none)
    statement d RECORD
    c ← letter d
    give (heading l title c)

  unfoldable pub ends : Reader Unit
  ends = do
    word d RECORD
    statement d END
    word d SURVEY
    statement d END
    word d SSS

  -- "512 variables": the 513th is refused
  unfoldable pub survey : Reader Survey
  survey = do
    h ← front
    l ← repeat (suc most_rows) another_variable []
    ends
    give (record { heading = h; variables = l })

-- from the first kept byte on
unfoldable pub survey_of : List ℕ → Result Survey
survey_of d = survey d (place_of (text d 0))
