-- THE CLEAN TEXT IS DERIVED: from what a survey of d says a derivation of its clean text is built, and that says the same but for places.
use Rattle.std.specs.Prelude.{◌≡◌, ℕ}
use Rattle.std.proofs.Math.Path.{refl}
use Rattle.std.proofs.Common.{◌∙◌}
use mathlib.Core.List.{List, [], ◌∷◌, ◌++◌}
use Rattle.ascii.specs.rule.Class.{class_of}
use Rattle.statements.specs.rule.Words.{SSS, SURVEY, RECORD, END}
use Rattle.survey.specs.rule.Survey.{Heading, Variable, Survey}
use Rattle.clean_text.specs.rule.Clean.{head_lines, each_variable, clean_lines, clean_of}
use Rattle.grammar.specs.Grammar.{Definition, definition}
use Rattle.printed.specs.Left.{Left, left_all, Yields, yields, after, taking}
use Rattle.printed.specs.Words.{solid, end_there}
use Rattle.printed.specs.Lines.{All, ink_then, inks_then, inks_append, text_kept}
use Rattle.clean_laws.specs.Said.{VariableSaid, SurveySaid, survey_said}
use Rattle.clean_laws.specs.Same.{SameSurvey}
use Rattle.clean_laws.specs.Variables.{variables_printed}
use Rattle.clean_laws.specs.Headings.{FrontThere, front_there, front_printed}
use Rattle.clean_laws.specs.Clear.{lines_tokens, clean_clear}

abbrev endings : List ℕ
endings = END ++ (32 ∷ RECORD ++ (END ++ (32 ∷ SURVEY ++ (END ++ (32 ∷ SSS ++ [])))))

module _ (d p : List ℕ) where
  clean_ink : (s : Survey) → inks_then (clean_lines d s) []
      ≡ inks_then (head_lines d s.heading) (inks_then (each_variable d s.variables) endings)
  unfolding clean_lines inks_then ink_then
  clean_ink s =
      inks_append (head_lines d s.heading ++ each_variable d s.variables)
      ((END ∷ RECORD ∷ []) ∷ (END ∷ SURVEY ∷ []) ∷ (END ∷ SSS ∷ []) ∷ []) []
      ∙ inks_append (head_lines d s.heading) (each_variable d s.variables) endings

  behind : {h : Heading} {v : Variable} {l : List Variable} → All (VariableSaid d) (v ∷ l)
      → FrontThere d p h (inks_then (each_variable d (v ∷ l)) endings)
      → Yields p (Definition p) (SameSurvey d p (record { heading = h; variables = v ∷ l })) []
  unfolding solid
  behind s (front_there o i y z t w r x) =
      taking p (variables_printed d p s x) λ l k u q x.
      after p (end_there p refl x) λ a e x.
      after p (end_there p refl x) λ b f x.
      after p (end_there p refl x) λ c g x.
      yields (definition o i y z t w u e f g) (record { heading = r; variables = q }) x

  pub definition_printed : {s : Survey} → SurveySaid d s → Left p 0 (inks_then (clean_lines d s) [])
      → Yields p (Definition p) (SameSurvey d p s) []
  definition_printed {s} (survey_said h v) x = behind v (front_printed d p h (rw (clean_ink s) at x))

pub letter_said : {d : List ℕ} {s : Survey} → SurveySaid d s → class_of s.heading.letter ≡ 3
letter_said (survey_said h v) = h.letter

pub clean_derived : (d : List ℕ) {s : Survey} → SurveySaid d s
    → Yields (clean_of d s) (Definition (clean_of d s)) (SameSurvey d (clean_of d s) s) []
unfolding clean_of
clean_derived d {s} h =
    let e = text_kept (clean_lines d s) (lines_tokens (clean_clear d s (letter_said h))) in
    definition_printed d (clean_of d s) h (rw e at (left_all (clean_of d s)))
