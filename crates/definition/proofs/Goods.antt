-- Every definition that is read gives good variables, one at least: so that the table built is well formed.
use Rattle.std.specs.Prelude.{Ok, Err}
use mathlib.Core.Path.{◌≡◌, refl, sym, ◌∙◌}
use mathlib.Core.Bool.{Bool, true, false, cond}
use mathlib.Core.List.{List, []}
use Prim.Native.Nat.{ℕ, zero, suc, ◌-◌, ◌≤◌}
use native.Mathlib.Omega.{arith}
use lib.Dec.{ltb}
use lib.IntN.{ℤ}
use lib.ListN.{length}
use borrow.Author.Tests.{ltb-false}
use Rattle.scan.specs.rule.Loop.{Next, Again, Done, on_next, loop_of}
use Rattle.tokens.specs.declared.Choice.{Choice}
use Rattle.tokens.specs.declared.Choice.TheVariants.{Taken, Left}
use Rattle.tokens.specs.rule.Gap.{fault, OrFault}
use Rattle.tokens.specs.Token.{choice_of}
use Rattle.statements.specs.rule.Words.{END}
use Rattle.statements.specs.Note.{notes_on}
use Rattle.heading.specs.Heading.{front_on}
use Rattle.sound.specs.rule.Sound.{well_formed}
use Rattle.measures.specs.Survey.{Variable, lines_all, ident_met, table_of}
use Rattle.measures.specs.Good.{Good}
use Rattle.measures.specs.Good as good
use Rattle.measures.proofs.Snoc.{added, length_with}
use Rattle.entries.specs.Entry.{Entry}
use Rattle.entries.specs.Entry as entry
use Rattle.entries.proofs.Goods.{entry_good}
use Rattle.built.specs.Nth.{few_lines}
use Rattle.survey.specs.rule.Survey as survey
use Rattle.built.specs.Built.{table_well_formed}
use Rattle.names.specs.rule.Standard.{name_fault}
use Rattle.definition.specs.Books.{Variables, Course, course, end_or, entered, variable_step, variables_from, ends_on, Survey}
use Rattle.definition.specs.Books.{Read, Whole, Faulty, ended, closed, survey_of, names_of, quote_at, Outcome, Built}
use Rattle.definition.specs.Books.{Refusal, fitting, named, judged, outcome_in, table_in}
use Rattle.definition.specs.rule.Definition as rule
use Rattle.definition.proofs.Bridge.{SameOutcome, outcome_same, table_same}
use Rattle.definition.proofs.Bridge as bridge
use Rattle.definition.specs.rule.Definition.{SssRead}
use Rattle.definition.specs.declared.Answer.{Answer}
use Rattle.definition.specs.Books as variables
use Rattle.definition.proofs.Courses.{next_entry}

none : {A : Type 0} → ◌≡◌ {A = ℕ} 0 1 → A
none e = absurd (omega arith)

-- what each step keeps, the loop keeps
module _ {S A : Type 0} (step : S → Next S A) (out : A) (P : S → Type 0) (Q : A → Type 0)
    (again : (s s' : S) → P s → step s ≡ Again s' → P s') (done : (s : S) (a : A) → P s → step s ≡ Done a → Q a) (over : Q out) where
  kept : (f : ℕ) (s : S) → P s → Q (loop_of step out f s)
  unfolding loop_of
  kept zero s p = over
  kept (suc f) s p = by (step s) refl (kept f) where
    by : (n : Next S A) → step s ≡ n → ((s' : S) → P s' → Q (loop_of step out f s')) → Q (on_next n (loop_of step out f))
    by (Again s') e k = k s' (again s s' p e)
    by (Done a) e k = done s a p e

pub record AllGood (v : Variables) : Type 0 where
  pub all : {l : List Variable} {m : ℕ} → v ≡ variables.Is l m → Good l × (1 ≤ length l)

module _ (d : List ℕ) (long : length d ≤ 1048576) where
  grown : (s : Course) → Good s.earlier → (v : Variable) (n : ℕ) → next_entry d s ≡ entry.Is v n → Good (added s.earlier v)
  grown s g v n e =
      let o = entry_good d s.at (ident_met s.earlier) (length s.earlier) (lines_all s.earlier) v n long (few_lines g) e in
      good.more g o.good o.fresh o.left

  again : (s s' : Course) → Good s.earlier → variable_step d s ≡ Again s' → Good s'.earlier
  unfolding variable_step
  again s s' g = by (next_entry d s) refl where
    choice : (v : Variable) (n : ℕ) (k : Choice) → Good (added s.earlier v) → end_or (added s.earlier v) (notes_on d (Ok n)) k
        ≡ Again s' → Good s'.earlier
    choice v n (Taken m) h e = none cc
    choice v n Left h e = let j : course (notes_on d (Ok n)) (added s.earlier v) ≡ s' = cc in rw (← j) h

    by : (o : Entry) → next_entry d s ≡ o → entered d s.earlier o ≡ Again s' → Good s'.earlier
    by (entry.Is v n) i e = choice v n (choice_of d (notes_on d (Ok n)) END) (grown s g v n i) e
    by (entry.Not f) i e = none cc

  done : (s : Course) (a : Variables) → Good s.earlier → variable_step d s ≡ Done a → AllGood a
  unfolding variable_step
  done s a g = by (next_entry d s) refl where
    choice : (v : Variable) (n : ℕ) (k : Choice) → Good (added s.earlier v) → end_or (added s.earlier v) (notes_on d (Ok n)) k ≡ Done a
        → AllGood a
    choice v n Left h e = none cc
    choice v n (Taken m) h e = record { all = λ {l} {m = k} q. same l k (let j : variables.Is (added s.earlier v) m ≡ a = cc in j ∙ q) }
      where
        same : (l : List Variable) (k : ℕ) → variables.Is (added s.earlier v) m ≡ variables.Is l k → Good l × (1 ≤ length l)
        same l k q = let o : added s.earlier v ≡ l = cc in rw (← o) (h, omega (arith, length_with s.earlier v))

    by : (o : Entry) → next_entry d s ≡ o → entered d s.earlier o ≡ Done a → AllGood a
    by (entry.Is v n) i e = choice v n (choice_of d (notes_on d (Ok n)) END) (grown s g v n i) e
    by (entry.Not f) i e = record {
      all = λ {l} {m} q. let j : variables.Not f
          ≡ variables.Is l m = (let k : variables.Not f ≡ a = cc in k ∙ q) in none cc;
    }

  pub variables_good : (t : OrFault ℕ) → AllGood (variables_from d (course t []))
  unfolding variables_from
  variables_good t = kept (variable_step d) (variables.Not (fault 0 0)) (λ s. Good s.earlier) AllGood again done
      (record { all = λ {l} {m} q. none cc }) (suc (512 - 0)) (course t []) good.none

-- ---- THE TABLE BUILT IS WELL FORMED, for every definition that is read
module _ (d : List ℕ) (n : ℕ) (l : List Variable) where
  survey_good : length d ≤ 1048576 → (s : Survey) → survey_of d ≡ Whole s → Good s.variables × (1 ≤ length s.variables)
  unfolding survey_of
  survey_good long s = by (variables_from d (course (front_on d).next [])) refl where
    ends : (v : List Variable) (r : OrFault ℕ) → Good v × (1 ≤ length v) → ended (front_on d) v r ≡ Whole s → Good s.variables
        × (1 ≤ length s.variables)
    ends v (Ok k) g e = let j : record { front = front_on d; variables = v } ≡ s = cc in rw (← j) g
    ends v (Err f) g e = none cc

    by : (v : Variables) → variables_from d (course (front_on d).next []) ≡ v → closed d (front_on d) v ≡ Whole s → Good s.variables
        × (1 ≤ length s.variables)
    by (variables.Is v m) i e = ends v (ends_on d m) ((variables_good d long (front_on d).next).all i) e
    by (variables.Not f) i e = none cc

  fitting_built : (v : List Variable) → fitting n v ≡ Built l → (v ≡ l) × (length (table_of v) ≤ n)
  unfolding fitting
  fitting_built v = by (ltb n (length (table_of v))) refl where
    by : (b : Bool) → ltb n (length (table_of v)) ≡ b → cond b (Refusal 10 0) (Built v) ≡ Built l → (v ≡ l) × (length (table_of v) ≤ n)
    by true i e = none cc
    by false i e = (cc, ltb-false n (length (table_of v)) i)

  named_built : (standard : Bool) (v : List Variable) → named d n standard v ≡ Built l → (v ≡ l) × (length (table_of v) ≤ n)
  unfolding named
  named_built false v e = fitting_built v e
  named_built true v e = by (ltb (name_fault (names_of d v)) (length v)) e where
    by : (b : Bool) → cond b (Refusal 9 (quote_at v (name_fault (names_of d v)))) (fitting n v) ≡ Built l → (v ≡ l)
        × (length (table_of v) ≤ n)
    by true i = none cc
    by false i = fitting_built v i

  pub built_good : outcome_in d n ≡ Built l → Good l × (1 ≤ length l) × (length (table_of l) ≤ n)
  unfolding outcome_in
  built_good = by (ltb 1048576 (length d)) refl where
    whole : length d ≤ 1048576 → (r : Read) → survey_of d ≡ r → judged d n r ≡ Built l → Good l × (1 ≤ length l) × (length (table_of l) ≤ n)
    whole long (Whole s) i e =
        let k = named_built s.front.heading.standard s.variables e in
        let g = survey_good long s i in
        rw (← k.0) (g.0, g.1, k.1)
    whole long (Faulty f) i e = none cc

    by : (b : Bool) → ltb 1048576 (length d) ≡ b → cond b (Refusal 1 0) (judged d n (survey_of d)) ≡ Built l → Good l × (1 ≤ length l)
        × (length (table_of l) ≤ n)
    by true i e = none cc
    by false i e = whole (ltb-false 1048576 (length d) i) (survey_of d) refl e

in_well_formed : (d : List ℕ) (t : List ℤ) (l : List Variable) → outcome_in d (length t) ≡ Built l
    → well_formed (table_in (outcome_in d (length t)) t) ≡ true
unfolding table_in
in_well_formed d t l e =
    let g = built_good d (length t) l e in
    rw e (table_well_formed l t g.0 g.1 g.2)

-- so is the table of every survey that the rule reads
pub read_well_formed : (d : List ℕ) (t : List ℤ) (l : List survey.Variable) → rule.sss_outcome d (length t) ≡ rule.Built l
    → well_formed (rule.sss_table_after (rule.sss_outcome d (length t)) t) ≡ true
read_well_formed d t l e = rw (← table_same d (length t) t) (by refl e (outcome_same d (length t))) where
  by : {o : Outcome} {q : rule.SssOutcome} → outcome_in d (length t) ≡ o → q ≡ rule.Built l → SameOutcome d o q
      → well_formed (table_in (outcome_in d (length t)) t) ≡ true
  by i j (bridge.built {l = m} s) = in_well_formed d t m i
  by i j bridge.refused = none cc

-- ---- NO TWO OUTCOMES: the contract settles the answer and the table
pub definition_settled : {d : List ℕ} {t t₁ t₂ : List ℤ} {r₁ r₂ : Answer} → SssRead d t t₁ r₁ → SssRead d t t₂ r₂ → (r₁ ≡ r₂)
    × (t₁ ≡ t₂)
definition_settled a b = (a.says ∙ sym b.says, a.leaves ∙ sym b.leaves)
