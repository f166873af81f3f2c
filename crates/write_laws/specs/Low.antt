-- 1 TO 9: a definition that is refused whatever table is lent is refused with one of these, and never with 10. What is met in reading is 2
-- to 8 (crate `refusals`), and 10 goes where there is room for the table.
use Rattle.std.specs.Prelude.{◌≡◌, refl, ℕ, suc, ◌-◌, ◌≤◌, ltb, Ok, Err}
use mathlib.Core.List.{List, [], ◌∷◌, ◌++◌}
use native.Mathlib.Omega.{arith}
use Rattle.std.proofs.Math.ListN.{length}
use Rattle.std.proofs.Common.{le-ltb}
use Rattle.tokens.specs.declared.Choice.{Choice}
use Rattle.tokens.specs.declared.Choice.TheVariants.{Taken, Left}
use Rattle.tokens.specs.rule.Gap.{fault, OrFault}
use Rattle.tokens.specs.Token.{choice_of, word_on}
use Rattle.statements.specs.rule.Words.{END, RECORD, SURVEY, SSS}
use Rattle.statements.specs.Note.{notes_on, statement_on}
use Rattle.heading.specs.Heading.{front_on}
use Rattle.names.specs.rule.Standard.{name_fault}
use Rattle.measures.specs.Survey.{Variable, lines_all, ident_met, table_of}
use Rattle.entries.specs.Entry.{Entry, entry_of}
use Rattle.entries.specs.Entry as entry
use Rattle.bridge.specs.Lowest.{never}
use Rattle.definition.specs.Books.{Variables, Course, course, end_or, entered, variable_step, variables_from, ends_on}
use Rattle.definition.specs.Books.{Read, Whole, Faulty, ended, closed, survey_of, names_of, quote_at}
use Rattle.definition.specs.Books.{Outcome, Built, Refusal, fitting, named, judged, outcome_in}
use Rattle.definition.specs.Books as variables
use Rattle.definition.specs.rule.Definition as rule
use Rattle.definition.proofs.Bridge.{SameOutcome, outcome_same}
use Rattle.definition.proofs.Bridge as bridge
use Rattle.refusals.specs.Loops.{Onward, loop_keeps}
use Rattle.refusals.specs.Scanned.{either}
use Rattle.refusals.specs.Tokens.{Stands, word_on_lem, ChoiceStands, choice_of_lem}
use Rattle.refusals.specs.Statements.{notes_on_lem, statement_on_lem}
use Rattle.refusals.specs.Fronts.{front_on_lem}
use Rattle.refusals.specs.Variables.{EntryStands, entry_of_lem}
use Rattle.refusals.specs.Refusals.{refusal_named, refusal_placed}
use Rattle.write_laws.specs.rule.Exactly.{Unread}

module _ (d : List ℕ) where
  -- ---- what is met in reading is 8 at most
  abbrev VariablesLow : Variables → Type 0
  VariablesLow (variables.Is l m) = m ≤ length d
  VariablesLow (variables.Not f) = f.number ≤ 8

  variable_step_lem : (s : Course) → Stands d s.at → Onward (λ (c : Course). Stands d c.at) VariablesLow (variable_step d s)
  unfolding variable_step
  variable_step_lem s h =
      let met = ident_met s.earlier in
      let before = lines_all s.earlier in
      let count = length s.earlier in
      by (entry_of d s.at met count before) (entry_of_lem d s.at met count before h)
    where
      ends : (l : List Variable) (t : OrFault ℕ) (c : Choice) → Stands d t → ChoiceStands d c
          → Onward (λ (c : Course). Stands d c.at) VariablesLow (end_or l t c)
      ends l t (Taken m) k i = i
      ends l t Left k i = k

      by : (x : Entry) → EntryStands d (length s.earlier) x
          → Onward (λ (c : Course). Stands d c.at) VariablesLow (entered d s.earlier x)
      by (entry.Is v n) k =
          let t = notes_on d (Ok n) in
          let l = notes_on_lem d (Ok n) k.next in
          ends (s.earlier ++ v ∷ []) t (choice_of d t END) l (choice_of_lem d t END l)
      by (entry.Not g) k = k.to_eight

  variables_from_lem : (t : OrFault ℕ) → Stands d t → VariablesLow (variables_from d (course t []))
  unfolding variables_from
  variables_from_lem t h =
      loop_keeps (λ (f : ℕ) (c : Course). Stands d c.at) VariablesLow (variable_step d) (variables.Not (fault 0 0)) (λ s r. omega arith)
      (λ f s r. variable_step_lem s r) (suc (512 - 0)) (course t []) h

  ends_on_lem : (m : ℕ) → m ≤ length d → Stands d (ends_on d m)
  unfolding ends_on
  ends_on_lem m h =
      let recorded = word_on d (Ok m) RECORD in
      let surveyed = word_on d (statement_on d recorded END) SURVEY in
      let a = word_on_lem d (Ok m) RECORD h in
      let b = word_on_lem d (statement_on d recorded END) SURVEY (statement_on_lem d recorded END a) in
      word_on_lem d (statement_on d surveyed END) SSS (statement_on_lem d surveyed END b)

  abbrev ReadLow : Read → Type 0
  ReadLow (Whole s) = Unit
  ReadLow (Faulty f) = f.number ≤ 8

  survey_low : ReadLow (survey_of d)
  unfolding survey_of
  survey_low = by (variables_from d (course (front_on d).next [])) (variables_from_lem (front_on d).next (front_on_lem d)) where
    ends : (l : List Variable) (t : OrFault ℕ) → Stands d t → ReadLow (ended (front_on d) l t)
    ends l (Ok n) k = tt
    ends l (Err f) k = k.to_eight

    by : (v : Variables) → VariablesLow v → ReadLow (closed d (front_on d) v)
    by (variables.Is l m) h = ends l (ends_on d m) (ends_on_lem m h)
    by (variables.Not f) h = h

  -- ---- with room for what was read, no refusal is 10
  abbrev Low : Outcome → Type 0
  Low (Built l) = Unit
  Low (Refusal k p) = k ≤ 9

  abbrev room_of : Read → ℕ
  room_of (Whole s) = length (table_of s.variables)
  room_of (Faulty f) = 0

  fitting_low : (l : List Variable) → Low (fitting (length (table_of l)) l)
  unfolding fitting
  fitting_low l = rw (le-ltb (length (table_of l)) (length (table_of l)) (omega arith)) tt

  judged_low : (r : Read) → ReadLow r → Low (judged d (room_of r) r)
  unfolding named
  judged_low (Whole s) h =
      let l = s.variables in
      let i = name_fault (names_of d l) in
      either Low s.front.heading.standard (either Low (ltb i (length l)) (omega arith) (fitting_low l)) (fitting_low l)
  judged_low (Faulty f) h = omega arith

  outcome_low : Low (outcome_in d (room_of (survey_of d)))
  unfolding outcome_in
  outcome_low = either Low (ltb 1048576 (length d)) (omega arith) (judged_low (survey_of d) survey_low)

  -- ---- 1 to 9, and a place in the text or its length
  pub unread_told : {number place : ℕ} → Unread d number place → (1 ≤ number) × (number ≤ 9) × (place ≤ length d)
  unread_told {number} {place} u = (
    (refusal_named d 0 number place (u 0)).0,
    by refl (u (room_of (survey_of d))) (outcome_same d (room_of (survey_of d))),
    refusal_placed d 0 number place (u 0),
  )
    where
      by : {o : Outcome} {q : rule.SssOutcome} → outcome_in d (room_of (survey_of d)) ≡ o → q ≡ rule.Refusal number place
          → SameOutcome d o q
          → number ≤ 9
      by i j (bridge.built s) = never cc
      by i j (bridge.refused {k = a} {p = b}) =
          let e : a ≡ number = cc in
          let h : Low (Refusal a b) = rw i at outcome_low in
          rw e at h
