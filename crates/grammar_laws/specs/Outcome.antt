-- THE CALL'S OUTCOME, both ways: 1 is first of all; then where the grammar stops, 2 to 8; then 9 and 10; or the table of the survey that
-- the
-- grammar derives.
use Rattle.std.specs.Prelude.{◌↔◌, ◌≡◌, Bool, List, ℕ, ◌≤◌, ◌<◌, ℤ}
use Rattle.std.proofs.Math.Path.{refl}
use Rattle.std.proofs.Common.{sym, ◌∙◌}
use Rattle.std.proofs.Math.Bool.{true, false, cond}
use Rattle.std.proofs.Math.Dec.{ltb}
use Rattle.std.proofs.Math.ListN.{length}
use borrow.Author.Tests.{lt-ltb, le-ltb, ltb-true, ltb-false}
use Rattle.tokens.specs.declared.Fault.{Fault}
use Rattle.names.specs.rule.Standard.{name_fault}
use Rattle.survey.specs.rule.Survey.{Variable, Survey}
use Rattle.survey.specs.rule.Table.{table_of}
use Rattle.reading.specs.rule.Result.{Result}
use Rattle.reading.specs.rule.Whole.{survey_of}
use Rattle.definition.specs.declared.Answer.{Answer}
use Rattle.definition.specs.rule.Definition.{SssOutcome, Built, Refusal, sss_fitting, names_of, quote_at, judge_names, sss_settled}
use Rattle.definition.specs.rule.Definition.{sss_outcome}
use Rattle.definition.specs.rule.Definition.{sss_answer}
use Rattle.definition.specs.rule.Definition.{sss_table_after, SssRead}
use Rattle.grammar.specs.Grammar.{Definition}
use Rattle.grammar.specs.Faults.{faults_of}
use Rattle.grammar.specs.Refusal.{Sound, Stops}
use Rattle.grammar_laws.specs.Views.{View, reads, halts}
use Rattle.grammar_laws.specs.Whole.{survey_view, survey_is, survey_halted}

module _ (d : List ℕ) where
  -- ---- the words: the text is derived, with no fault of 5 to 8
  abbrev pub Says : Survey → ℕ → Type 0
  Says = Sound (Definition d) faults_of

  -- the first name of s that breaks STANDARD NAMES; as many as there are names where none does
  abbrev pub wrong_name : Survey → ℕ
  wrong_name s = name_fault (names_of d s.variables)

  pub data NamesStand (s : Survey) : Type 0 where
    not_asked : s.heading.standard ≡ false → NamesStand s
    all_good : length s.variables ≤ wrong_name s → NamesStand s

  module _ (n : ℕ) where
    pub data Settles : SssOutcome → Type 0 where
      too_long : 1048576 < length d → Settles (Refusal 1 0)
      stopped : {f : Fault} → length d ≤ 1048576 → Stops d f → Settles (Refusal f.number f.place)
      misnamed : {s : Survey} {m : ℕ} → length d ≤ 1048576 → Says s m → s.heading.standard ≡ true → wrong_name s < length s.variables
          → Settles (Refusal 9 (quote_at s.variables (wrong_name s)))
      no_room : {s : Survey} {m : ℕ} → length d ≤ 1048576 → Says s m → NamesStand s → n < length (table_of s.variables)
          → Settles (Refusal 10 0)
      read : {s : Survey} {m : ℕ} → length d ≤ 1048576 → Says s m → NamesStand s → length (table_of s.variables) ≤ n
          → Settles (Built s.variables)

    -- ---- what is answered is one of these
    room_view : {s : Survey} {m : ℕ} → length d ≤ 1048576 → Says s m → NamesStand s → Settles (sss_fitting n s.variables)
    unfolding sss_fitting
    room_view {s} h x w = by (ltb n (length (table_of s.variables))) refl where
      by : (q : Bool) → ltb n (length (table_of s.variables)) ≡ q → Settles (cond q (Refusal 10 0) (Built s.variables))
      by true e = no_room h x w (ltb-true n (length (table_of s.variables)) e)
      by false e = read h x w (ltb-false n (length (table_of s.variables)) e)

    names_view : (s : Survey) {m : ℕ} → length d ≤ 1048576 → Says s m → Settles (judge_names d n s.heading.standard s.variables)
    unfolding judge_names
    names_view s h x = by s.heading.standard (ltb (wrong_name s) (length s.variables)) refl refl where
      by : (p q : Bool) → s.heading.standard ≡ p → ltb (wrong_name s) (length s.variables) ≡ q
          → Settles (cond p (cond q (Refusal 9 (quote_at s.variables (wrong_name s))) (sss_fitting n s.variables))
          (sss_fitting n s.variables))
      by true true e f = misnamed h x e (ltb-true (wrong_name s) (length s.variables) f)
      by true false e f = room_view h x (all_good (ltb-false (wrong_name s) (length s.variables) f))
      by false q e f = room_view h x (not_asked e)

    outcome_view : Settles (sss_outcome d n)
    unfolding sss_outcome
    outcome_view = by (ltb 1048576 (length d)) refl (survey_view d) where
      on : length d ≤ 1048576 → {r : Result Survey} → View (Sound (Definition d) faults_of) (Stops d) r → Settles (sss_settled d n r)
      on h (reads {a = s} x) = names_view s h x
      on h (halts z) = stopped h z

      by : (q : Bool) → ltb 1048576 (length d) ≡ q → View (Sound (Definition d) faults_of) (Stops d) (survey_of d)
          → Settles (cond q (Refusal 1 0) (sss_settled d n (survey_of d)))
      by true e v = too_long (ltb-true 1048576 (length d) e)
      by false e v = on (ltb-false 1048576 (length d) e) v

    -- ---- and each of these settles what is answered
    room_is : (l : List Variable) → length (table_of l) ≤ n → sss_fitting n l ≡ Built l
    unfolding sss_fitting
    room_is l h = rw (le-ltb n (length (table_of l)) h)

    short_is : (l : List Variable) → n < length (table_of l) → sss_fitting n l ≡ Refusal 10 0
    unfolding sss_fitting
    short_is l h = rw (lt-ltb n (length (table_of l)) h)

    names_is : (s : Survey) → NamesStand s → judge_names d n s.heading.standard s.variables ≡ sss_fitting n s.variables
    unfolding judge_names
    names_is s (not_asked e) = rw e
    names_is s (all_good h) = rw (le-ltb (wrong_name s) (length s.variables) h) (by s.heading.standard) where
      by : (q : Bool) → cond q (sss_fitting n s.variables) (sss_fitting n s.variables) ≡ sss_fitting n s.variables
      by true = refl
      by false = refl

    derived_is : {s : Survey} {m : ℕ} → length d ≤ 1048576 → Says s m → sss_outcome d n
        ≡ judge_names d n s.heading.standard s.variables
    unfolding sss_outcome
    derived_is h x = rw (le-ltb 1048576 (length d) h, survey_is d x)

    settles_is : {o : SssOutcome} → Settles o → sss_outcome d n ≡ o
    unfolding sss_outcome judge_names
    settles_is (too_long h) = rw (lt-ltb 1048576 (length d) h)
    settles_is (stopped h z) = rw (le-ltb 1048576 (length d) h, survey_halted d z)
    settles_is (misnamed {s = s} h x e l) = derived_is h x ∙ rw (e, lt-ltb (wrong_name s) (length s.variables) l)
    settles_is (no_room {s = s} h x w l) = derived_is h x ∙ (names_is s w ∙ short_is s.variables l)
    settles_is (read {s = s} h x w l) = derived_is h x ∙ (names_is s w ∙ room_is s.variables l)

    -- THE OUTCOME EXACTLY
    pub outcome_exactly : (o : SssOutcome) → (sss_outcome d n ≡ o) ↔ Settles o
    outcome_exactly o = (λ e. rw e at outcome_view, settles_is)

-- ---- THE CALL'S PROMISE, in the grammar's words: how the text and the lent table settle the outcome, the answer, and the table afterwards
pub record Called (d : List ℕ) (t t' : List ℤ) (a : Answer) : Type 0 where
  pub outcome : SssOutcome
  pub settles : Settles d (length t) outcome
  pub says : a ≡ sss_answer outcome
  pub leaves : t' ≡ sss_table_after outcome t

pub call_exactly : (d : List ℕ) (t t' : List ℤ) (a : Answer) → SssRead d t t' a ↔ Called d t t' a
call_exactly d t t' a = (to, from) where
  to : SssRead d t t' a → Called d t t' a
  to p = record { outcome = sss_outcome d (length t); settles = outcome_view d (length t); says = p.says; leaves = p.leaves }

  from : Called d t t' a → SssRead d t t' a
  from c =
      let e = settles_is d (length t) c.settles in
      record { says = rw (sym e) at c.says; leaves = rw (sym e) at c.leaves }
