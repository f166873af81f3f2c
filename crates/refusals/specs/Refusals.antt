-- Every refusal of a definition has a number of the table, 1 to 10, and its place lies in the text or is its length.
use Rattle.std.specs.Prelude.{◌≡◌, refl, ltb, Ok, Err}
use mathlib.Core.List.{List, [], ◌∷◌, ◌++◌}
use Prim.Native.Nat.{ℕ, zero, suc, ◌+◌, ◌-◌, ◌≤◌, ◌<◌}
use native.Mathlib.Omega.{arith}
use Rattle.std.proofs.Math.ListN.{length}
use Rattle.std.proofs.Common.{length-append}
use Rattle.tokens.specs.declared.Choice.{Choice}
use Rattle.tokens.specs.declared.Choice.TheVariants.{Taken, Left}
use Rattle.tokens.specs.rule.Gap.{fault, OrFault}
use Rattle.tokens.specs.Token.{choice_of, word_on}
use Rattle.statements.specs.rule.Words.{END, RECORD, SURVEY, SSS}
use Rattle.statements.specs.Note.{notes_on, statement_on}
use Rattle.heading.specs.Heading.{front_on}
use Rattle.names.specs.rule.Standard.{name_fault}
use Rattle.measures.specs.Survey.{Variable, lines_all, ident_met, table_of}
use Rattle.entries.specs.Entry.{Entry, entry_of}
use Rattle.entries.specs.Entry as entry
use Rattle.definition.specs.Books.{Variables, Course, course, end_or, entered, variable_step, variables_from, ends_on}
use Rattle.definition.specs.Books.{Read, Whole, Faulty, ended, closed, survey_of, names_of, quote_at}
use Rattle.definition.specs.Books.{Outcome, Built, Refusal, fitting, named, judged, outcome_in}
use Rattle.definition.specs.rule.Definition as rule
use Rattle.definition.proofs.Bridge.{SameOutcome, outcome_same}
use Rattle.definition.proofs.Bridge as bridge
use Rattle.definition.specs.Books as variables
use Rattle.definition.specs.declared.Answer.TheVariants as answer
use Rattle.refusals.specs.Loops.{Onward, loop_keeps}
use Rattle.refusals.specs.Scanned.{either}
use Rattle.refusals.specs.Tokens.{Met, Stands, word_on_lem, ChoiceStands, choice_of_lem}
use Rattle.refusals.specs.Statements.{notes_on_lem, statement_on_lem}
use Rattle.refusals.specs.Fronts.{front_on_lem}
use Rattle.refusals.specs.Variables.{VariableStands, EntryStands, entry_of_lem}

module _ (d : List ℕ) where
  -- ---- the names of variables
  abbrev NamesStand : List Variable → Type 0
  NamesStand [] = Unit
  NamesStand (v ∷ l) = (v.head.name.place ≤ length d) × NamesStand l

  names_more : (l : List Variable) (v : Variable) → NamesStand l → v.head.name.place ≤ length d → NamesStand (l ++ v ∷ [])
  names_more [] v h k = (k, tt)
  names_more (w ∷ l) v h k = (h.0, names_more l v h.1 k)

  quote_at_lem : (l : List Variable) (i : ℕ) → NamesStand l → quote_at l i ≤ length d
  unfolding quote_at
  quote_at_lem [] i h = omega arith
  quote_at_lem (v ∷ l) zero h = omega (arith, h.0)
  quote_at_lem (v ∷ l) (suc i) h = quote_at_lem l i h.1

  -- ---- variables one after the other: the reader refuses before its steps, of which f are left, run out
  abbrev VariablesStand : Variables → Type 0
  VariablesStand (variables.Is l m) = NamesStand l × (m ≤ length d)
  VariablesStand (variables.Not f) = Met d f

  record Reads (f : ℕ) (s : Course) : Type 0 where
    pub stands : Stands d s.at
    pub names : NamesStand s.earlier
    pub some : 1 ≤ f
    pub enough : 512 < f + length s.earlier

  variable_step_lem : (f : ℕ) (s : Course) → Reads (suc f) s → Onward (Reads f) VariablesStand (variable_step d s)
  unfolding variable_step
  variable_step_lem f s h =
      let met = ident_met s.earlier in
      let before = lines_all s.earlier in
      by (entry_of d s.at met count before) (entry_of_lem d s.at met count before h.stands)
    where
      count : ℕ
      count = length s.earlier

      ends : (v : Variable) (n : ℕ) (t : OrFault ℕ) (c : Choice) → VariableStands d count v n → Stands d t → ChoiceStands d c
          → Onward (Reads f) VariablesStand (end_or (s.earlier ++ v ∷ []) t c)
      ends v n t (Taken m) k l i = (names_more s.earlier v h.names k.name, i)
      ends v n t Left k l i = record {
        stands = l;
        names = names_more s.earlier v h.names k.name;
        some = omega arith;
        enough = simp length-append (omega arith);
      }

      by : (x : Entry) → EntryStands d count x → Onward (Reads f) VariablesStand (entered d s.earlier x)
      by (entry.Is v n) k =
          let t = notes_on d (Ok n) in
          let l = notes_on_lem d (Ok n) k.next in
          ends v n t (choice_of d t END) k l (choice_of_lem d t END l)
      by (entry.Not g) k = k

  variables_from_lem : (t : OrFault ℕ) → Stands d t → VariablesStand (variables_from d (course t []))
  unfolding variables_from
  variables_from_lem t h =
      loop_keeps Reads VariablesStand (variable_step d) (variables.Not (fault 0 0)) (λ s r. absurd (omega (arith, r.some)))
      variable_step_lem (suc (512 - 0)) (course t []) (record { stands = h; names = tt; some = omega arith; enough = omega arith })

  -- ---- the survey
  ends_on_lem : (m : ℕ) → m ≤ length d → Stands d (ends_on d m)
  unfolding ends_on
  ends_on_lem m h =
      let recorded = word_on d (Ok m) RECORD in
      let surveyed = word_on d (statement_on d recorded END) SURVEY in
      let a = word_on_lem d (Ok m) RECORD h in
      let b = word_on_lem d (statement_on d recorded END) SURVEY (statement_on_lem d recorded END a) in
      word_on_lem d (statement_on d surveyed END) SSS (statement_on_lem d surveyed END b)

  abbrev ReadStands : Read → Type 0
  ReadStands (Whole s) = NamesStand s.variables
  ReadStands (Faulty f) = Met d f

  survey_of_lem : ReadStands (survey_of d)
  unfolding survey_of
  survey_of_lem = by (variables_from d (course (front_on d).next [])) (variables_from_lem (front_on d).next (front_on_lem d)) where
    ends : (l : List Variable) (t : OrFault ℕ) → NamesStand l → Stands d t → ReadStands (ended (front_on d) l t)
    ends l (Ok n) h k = h
    ends l (Err f) h k = k

    by : (v : Variables) → VariablesStand v → ReadStands (closed d (front_on d) v)
    by (variables.Is l m) h = ends l (ends_on d m) h.0 (ends_on_lem m h.1)
    by (variables.Not f) h = h

  -- ---- the outcome
  abbrev RefusalStands : Outcome → Type 0
  RefusalStands (Built l) = Unit
  RefusalStands (Refusal k p) = (1 ≤ k) × (k ≤ 10) × (p ≤ length d)

  module _ (n : ℕ) where
    fitting_stands : (l : List Variable) → RefusalStands (fitting n l)
    unfolding fitting
    fitting_stands l = either RefusalStands (ltb n (length (table_of l))) (omega arith) tt

    judged_stands : (r : Read) → ReadStands r → RefusalStands (judged d n r)
    unfolding named
    judged_stands (Whole s) h =
        let l = s.variables in
        let i = name_fault (names_of d l) in
        let q = quote_at_lem l i h in
        either RefusalStands s.front.heading.standard
        (either RefusalStands (ltb i (length l)) (omega arith) (fitting_stands l)) (fitting_stands l)
    judged_stands (Faulty f) h = omega arith

    outcome_stands : RefusalStands (outcome_in d n)
    unfolding outcome_in
    outcome_stands = either RefusalStands (ltb 1048576 (length d)) (omega arith) (judged_stands (survey_of d) survey_of_lem)

    -- a refusal of the rule is one of the code's books
    module _ (k p : ℕ) (refused : rule.sss_outcome d n ≡ rule.Refusal k p) where
      stands : RefusalStands (Refusal k p)
      stands = by refl refused (outcome_same d n) where
        by : {o : Outcome} {q : rule.SssOutcome} → outcome_in d n ≡ o → q ≡ rule.Refusal k p → SameOutcome d o q
            → RefusalStands (Refusal k p)
        by i j (bridge.built s) = let z : ◌≡◌ {A = ℕ} 0 1 = cc in absurd (omega arith)
        by i j (bridge.refused {k = a} {p = b}) =
            let u : a ≡ k = cc in
            let v : b ≡ p = cc in
            let h : RefusalStands (Refusal a b) = rw i at outcome_stands in
            rw (u, v) at h

      pub refusal_named : (1 ≤ k) × (k ≤ 10)
      refusal_named = (stands.0, stands.1)

      pub refusal_placed : p ≤ length d
      refusal_placed = stands.2

-- what the call answers as refused is such a refusal
pub answered : (d : List ℕ) (n k p : ℕ) → rule.sss_answer (rule.sss_outcome d n) ≡ answer.Refused k p → rule.sss_outcome d n
    ≡ rule.Refusal k p
unfolding rule.sss_answer
answered d n k p = by (rule.sss_outcome d n) where
  by : (o : rule.SssOutcome) → rule.sss_answer o ≡ answer.Refused k p → o ≡ rule.Refusal k p
  by (rule.Built l) e = let z : ◌≡◌ {A = ℕ} 0 1 = cc in absurd (omega arith)
  by (rule.Refusal number place) e = cc
