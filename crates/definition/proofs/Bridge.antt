-- THE BRIDGE: the code's books of a definition as a whole say what rule/Definition says. The readers below are `bridge`'s; here stand the
-- variables one after the other, the ENDs, the table and the outcome.
use Rattle.std.specs.Prelude.{Ok, Err}
use mathlib.Core.Path.{◌≡◌, refl, sym}
use mathlib.Core.Bool.{Bool, true, false, cond}
use mathlib.Core.List.{List, [], ◌∷◌, ◌++◌}
use Prim.Native.Nat.{ℕ, zero, suc, ◌+◌, ◌-◌, ◌<◌}
use native.Mathlib.Omega.{arith}
use lib.Dec.{eqb, ltb}
use lib.IntN.{ℤ}
use lib.ListN.{length, length-append}
use Rattle.scan.specs.rule.Loop.{Next, Again, Done, on_next, loop_of}
use Rattle.scan.specs.rule.Word.{word_at}
use Rattle.scan.specs.declared.Word.{Word}
use Rattle.scan.specs.declared.Word.TheVariants as spelled
use Rattle.tokens.specs.declared.Fault.{Fault}
use Rattle.tokens.specs.rule.Gap.{fault, OrFault}
use Rattle.tokens.specs.Token.{of_choice, choice_of, word_on}
use Rattle.statements.specs.rule.Words.{END, RECORD, SURVEY, SSS}
use Rattle.statements.specs.Note.{notes_on, statement_on}
use Rattle.heading.specs.declared.Front.{Front}
use Rattle.names.specs.rule.Standard.{name_fault}
use Rattle.measures.specs.Survey as kept
use Rattle.entries.specs.Entry.{Entry, entry_of}
use Rattle.entries.specs.Entry as entry
use Rattle.entries.proofs.Goods.{entry_left}
use Rattle.survey.specs.rule.Survey.{Variable, Heading, Survey}
use Rattle.survey.specs.rule.Width.{some_of}
use Rattle.survey.specs.rule.Table.{lines_of, lines_all, highest_in, header_for, rows_from, all_lines, table_of}
use Rattle.reading.specs.rule.Result.{Result, Is, Not, bind, repeat}
use Rattle.reading.specs.rule.Result as reading
use Rattle.reading.specs.rule.Token.{on_word, word, either}
use Rattle.reading.specs.rule.Statement.{notes, statement}
use Rattle.reading.specs.rule.Variable.{variable}
use Rattle.reading.specs.rule.Whole.{another_variable, ends, survey, survey_of}
use Rattle.bridge.specs.Tokens.{to_reading, word_on_lem}
use Rattle.bridge.specs.Notes.{notes_on_lem, statement_on_lem}
use Rattle.bridge.specs.Blocks.{lines_count, lines_cells}
use Rattle.bridge.specs.Entries.{SameVariable, SameEntry, reads, stops, entry_on}
use Rattle.bridge.specs.Fronts.{SameFront, fronts, stopped, front_on_lem}
use Rattle.definition.specs.Books.{Variables, Course, course, end_or, entered, variable_step, variables_from, ends_on, Read, Whole}
use Rattle.definition.specs.Books.{Faulty, closed, judged}
use Rattle.definition.specs.Books as books
use Rattle.definition.specs.rule.Definition.{SssOutcome, Built, Refusal, sss_fitting, names_of, quote_at, judge_names, sss_settled}
use Rattle.definition.specs.rule.Definition.{sss_outcome}
use Rattle.definition.specs.rule.Definition.{sss_answer, sss_table_after}
use Rattle.laying.specs.rule.Begins.{begins_table}
use Rattle.definition.specs.rule.Against.{sss_held}
use Rattle.definition.specs.declared.Against.{Against}
use Rattle.definition.specs.declared.Against.TheVariants as against

-- ---- variables one after the other
pub data Sames (d : List ℕ) : List kept.Variable → List Variable → Type 0 where
  none : Sames d [] []
  more : {v : kept.Variable} {w : Variable} {l : List kept.Variable} {m : List Variable} → SameVariable d v w → Sames d l m
      → Sames d (v ∷ l) (w ∷ m)

module _ {d : List ℕ} where
  sames_more : {v : kept.Variable} {w : Variable} {l : List kept.Variable} {m : List Variable} → Sames d l m → SameVariable d v w
      → Sames d (l ++ v ∷ []) (m ++ w ∷ [])
  sames_more none h = more h none
  sames_more (more g r) h = more g (sames_more r h)

  pub sames_count : {l : List kept.Variable} {m : List Variable} → Sames d l m → length l ≡ length m
  sames_count none = refl
  sames_count (more h r) = rw (sames_count r)

  pub sames_lines : {l : List kept.Variable} {m : List Variable} → Sames d l m → kept.lines_all l ≡ lines_all m
  unfolding kept.lines_all lines_all
  sames_lines none = refl
  sames_lines (more h r) = rw (lines_count h.lines, sames_lines r)

  sames_met : {l : List kept.Variable} {m : List Variable} → Sames d l m → (n : ℕ)
      → kept.ident_met l n ≡ some_of (λ v. eqb v.ident.value n) m
  unfolding kept.ident_met some_of
  sames_met none n = refl
  sames_met (more h r) n = rw (h.ident, sames_met r n)

  sames_highest : {l : List kept.Variable} {m : List Variable} → Sames d l m → kept.highest_in l ≡ highest_in m
  unfolding kept.highest_in highest_in
  sames_highest none = refl
  sames_highest (more h r) = rw (h.finish, sames_highest r)

  sames_rows : {l : List kept.Variable} {m : List Variable} → Sames d l m → (before : ℕ) → kept.rows_from before l ≡ rows_from before m
  unfolding kept.rows_from rows_from
  sames_rows none before = refl
  sames_rows (more {m = m} h r) before = rw (h.columns before, lines_count h.lines) (rw (sames_rows r (before + length (lines_of _))))

  sames_cells : {l : List kept.Variable} {m : List Variable} → Sames d l m → kept.all_lines l ≡ all_lines m
  unfolding kept.all_lines all_lines
  sames_cells none = refl
  sames_cells (more h r) = rw (lines_cells h.lines, sames_cells r)

  pub sames_table : {l : List kept.Variable} {m : List Variable} → Sames d l m → kept.table_of l ≡ table_of m
  unfolding kept.table_of table_of kept.header_for header_for
  sames_table s = rw (sames_count s, sames_lines s, sames_highest s) (rw (sames_rows s 0, sames_cells s))

  sames_names : {l : List kept.Variable} {m : List Variable} → Sames d l m → books.names_of d l ≡ names_of d m
  unfolding books.names_of names_of
  sames_names none = refl
  sames_names (more h r) = rw (h.name, sames_names r)

  sames_quote : {l : List kept.Variable} {m : List Variable} → Sames d l m → (i : ℕ) → books.quote_at l i ≡ quote_at m i
  unfolding books.quote_at quote_at
  sames_quote none i = refl
  sames_quote (more h r) zero = rw h.name
  sames_quote (more h r) (suc i) = sames_quote r i

-- ---- the reader of variables
pub data SameVariables (d : List ℕ) : Variables → Result (List Variable) → Type 0 where
  gives : {l : List kept.Variable} {m : List Variable} {n : ℕ} → Sames d l m → SameVariables d (books.Is l n) (Is m n)
  refuses : {f : Fault} → SameVariables d (books.Not f) (Not f)

module _ (d : List ℕ) where
  data Step (k : ℕ) : Next Course Variables → Result (Next (List Variable) (List Variable)) → Type 0 where
    on : {l : List kept.Variable} {m : List Variable} {n : ℕ} → Sames d l m → k + 1 ≡ length l → k < 512
        → Step k (Again (course (Ok n) l)) (Is (Again m) n)
    over : {l : List kept.Variable} {m : List Variable} {n : ℕ} → Sames d l m → Step k (Done (books.Is l n)) (Is (Done m) n)
    stuck : {l : List kept.Variable} {m : List Variable} {f : Fault} → Sames d l m → k + 1 ≡ length l → k < 512
        → Step k (Again (course (Err f) l)) (Not f)
    halt : {f : Fault} → Step k (Done (books.Not f)) (Not f)

  -- behind a variable: another one, or END
  follows : (k : ℕ) (l : List kept.Variable) (m : List Variable) → Sames d l m → k + 1 ≡ length l → k < 512 → (n : ℕ)
      → Step k (end_or l (notes_on d (Ok n)) (choice_of d (notes_on d (Ok n)) END))
      (bind (notes d n) λ a. either d END (λ e. Is (Done m) e) (λ i. Is (Again m) i))
  unfolding choice_of
  follows k l m s count few n = rw (notes_on_lem d (Is n n)) (by (notes d n)) where
    at : (i : ℕ) (w : Word) → Step k (end_or l (Ok i) (of_choice w)) (on_word (λ e. Is (Done m) e) (λ i. Is (Again m) i) i w)
    at i (spelled.Matched e) = over s
    at i spelled.Not = on s count few

    by : (r : Result Unit) → Step k (end_or l (to_reading r) (choice_of d (to_reading r) END))
        (bind r λ a. either d END (λ e. Is (Done m) e) (λ i. Is (Again m) i))
    by (Is a i) = at i (word_at d i END)
    by (Not f) = stuck s count few

  -- one variable
  abbrev entry_in : List kept.Variable → OrFault ℕ → Entry
  entry_in l t = entry_of d t (kept.ident_met l) (length l) (kept.lines_all l)

  entry_same : {A : Type 0} (l : List kept.Variable) (m : List Variable) → Sames d l m → (r : Result A)
      → SameEntry d (entry_in l (to_reading r)) (bind r λ a. variable d m)
  entry_same l m s r = rw (sames_count s, sames_lines s) (entry_on d (kept.ident_met l) m (sames_met s) r)

  variable_step_lem : (l : List kept.Variable) (m : List Variable) → Sames d l m → (n : ℕ)
      → Step (length l) (variable_step d (course (Ok n) l)) (another_variable d m n)
  unfolding variable_step another_variable
  variable_step_lem l m s n = by refl (entry_same l m s (Is n n)) where
    by : {e : Entry} {q : Result Variable} → entry_in l (Ok n) ≡ e → SameEntry d e q
        → Step (length l) (entered d l e)
        (bind q λ v n. bind (notes d n) λ a. either d END (λ i. Is (Done (m ++ v ∷ [])) i) (λ i. Is (Again (m ++ v ∷ [])) i))
    by e (reads {v = v} {w = w} {n = i} h) =
        let few = entry_left d (Ok n) (kept.ident_met l) (length l) (kept.lines_all l) v i e in
        follows (length l) (l ++ v ∷ []) (m ++ w ∷ []) (sames_more s h) (sym (length-append l (v ∷ []))) few i
    by e stops = halt

  refused_entry : {e : Entry} {f : Fault} → SameEntry d e (Not f) → e ≡ entry.Not f
  refused_entry stops = refl

  abbrev out : Variables
  out = books.Not (fault 0 0)

  no_variable : (g : ℕ) (f : Fault) (l : List kept.Variable) (m : List Variable) → Sames d l m → 0 < g
      → loop_of (variable_step d) out g (course (Err f) l) ≡ books.Not f
  unfolding loop_of variable_step
  no_variable zero f l m s h = absurd (omega arith)
  no_variable (suc g) f l m s h = rw (refused_entry (entry_same {A = ℕ} l m s (Not f)))

  -- as many turns as variables may still come are enough
  variables_turns : (f g : ℕ) (l : List kept.Variable) (m : List Variable) (n : ℕ) → Sames d l m → 512 - length l < f → 512 - length l < g
      → SameVariables d (loop_of (variable_step d) out f (course (Ok n) l)) (repeat g (another_variable d) m n)
  unfolding loop_of repeat
  variables_turns zero g l m n s i j = absurd (omega arith)
  variables_turns (suc f) zero l m n s i j = absurd (omega arith)
  variables_turns (suc f) (suc g) l m n s i j = by (variable_step_lem l m s n) (variables_turns f g) where
    by : {r : Next Course Variables} {q : Result (Next (List Variable) (List Variable))} → Step (length l) r q
        → ((l : List kept.Variable) (m : List Variable) (n : ℕ) → Sames d l m → 512 - length l < f → 512 - length l < g
        → SameVariables d (loop_of (variable_step d) out f (course (Ok n) l)) (repeat g (another_variable d) m n))
        → SameVariables d (on_next r (loop_of (variable_step d) out f)) (bind q (reading.turn (repeat g (another_variable d))))
    by (on {l = l} {m = m} {n = n} s e k) ih = ih l m n s (omega arith) (omega arith)
    by (over s) ih = gives s
    by (stuck {l = l} {m = m} {f = e} s u k) ih = rw (no_variable f e l m s (omega arith)) refuses
    by halt ih = refuses

  -- ---- END RECORD, END SURVEY, END SSS
  ends_on_lem : (n : ℕ) → ends_on d n ≡ to_reading (ends d n)
  unfolding ends_on ends
  ends_on_lem n = rw (word_on_lem d (Is n n) RECORD) (at_record (word d RECORD n)) where
    at_end_lem : (r : Result Unit) → word_on d (statement_on d (to_reading r) END) SSS ≡ to_reading
        (bind r λ a n. bind (statement d END n) λ a. word d SSS)
    at_end_lem (Is a n) = rw (statement_on_lem d (Is a n) END) (word_on_lem d (statement d END n) SSS)
    at_end_lem (Not f) = rw (statement_on_lem d {A = ℕ} (Not f) END) (word_on_lem d {A = ℕ} (Not f) SSS)

    at_survey : (r : Result Unit)
        → word_on d (statement_on d (word_on d (to_reading r) SURVEY) END) SSS
        ≡ to_reading (bind r λ a n. bind (word d SURVEY n) λ a n. bind (statement d END n) λ a. word d SSS)
    at_survey (Is a n) = rw (word_on_lem d (Is a n) SURVEY) (at_end_lem (word d SURVEY n))
    at_survey (Not f) = rw (word_on_lem d {A = ℕ} (Not f) SURVEY) (at_end_lem (Not f))

    at_record : (r : Result Unit) → word_on d (statement_on d (word_on d (statement_on d (to_reading r) END) SURVEY) END) SSS
        ≡ to_reading (bind r λ a n. bind (statement d END n) λ a n. bind (word d SURVEY n) λ a n. bind (statement d END n) λ a. word d SSS)
    at_record (Is a n) = rw (statement_on_lem d (Is a n) END) (at_survey (statement d END n))
    at_record (Not f) = rw (statement_on_lem d {A = ℕ} (Not f) END) (at_survey (Not f))

-- ---- the survey
pub data SameRead (d : List ℕ) : Read → Result Survey → Type 0 where
  whole : {s : books.Survey} {t : Survey} {n : ℕ} → s.front.heading.standard ≡ t.heading.standard
      → Sames d s.variables t.variables → SameRead d (Whole s) (Is t n)
  faulty : {f : Fault} → SameRead d (Faulty f) (Not f)

abbrev survey_with : Heading → List Variable → Survey
survey_with h l = record { heading = h; variables = l }

-- what is said of a table held against the outcome
unfoldable pub held_in : books.Outcome → List ℤ → Against
held_in (books.Built l) t = cond (begins_table (kept.table_of l) t) against.Same against.Other
held_in (books.Refusal k p) t = against.Refused k p

module _ (d : List ℕ) where
  variables_from_lem : (n : ℕ) (t : OrFault ℕ) → t ≡ Ok n
      → SameVariables d (variables_from d (course t [])) (repeat (suc 512) (another_variable d) [] n)
  unfolding variables_from
  variables_from_lem n t e = rw e (variables_turns d (suc (512 - 0)) (suc 512) [] [] n none (omega arith) (omega arith))

  variables_none : (f : Fault) (t : OrFault ℕ) → t ≡ Err f → SameVariables d (variables_from d (course t [])) (Not f)
  unfolding variables_from
  variables_none f t e = rw e (rw (no_variable d (suc (512 - 0)) f [] [] none (omega arith)) refuses)

  pub survey_same : SameRead d (books.survey_of d) (survey_of d)
  unfolding books.survey_of survey_of survey
  survey_same = by (front_on_lem d) where
    at_ends : (o : Front) (h : Heading) → o.heading.standard ≡ h.standard → (l : List kept.Variable) (m : List Variable) → Sames d l m
        → (r : Result Unit)
        → SameRead d (books.ended o l (to_reading r)) (bind r λ a n. Is (survey_with h m) n)
    at_ends o h e l m s (Is a n) = whole e s
    at_ends o h e l m s (Not f) = faulty

    at_variables : (o : Front) (h : Heading) → o.heading.standard ≡ h.standard → {v : Variables} {q : Result (List Variable)}
        → SameVariables d v q
        → SameRead d (closed d o v) (bind q λ m n. bind (ends d n) λ a n. Is (survey_with h m) n)
    at_variables o h e (gives {l = l} {m = m} {n = n} s) = rw (ends_on_lem d n) (at_ends o h e l m s (ends d n))
    at_variables o h e refuses = faulty

    at_refused : (o : Front) {v : Variables} {f : Fault} → SameVariables d v (Not f) → SameRead d (closed d o v) (Not f)
    at_refused o refuses = faulty

    by : {o : Front} {r : Result Heading} → SameFront o r
        → SameRead d (closed d o (variables_from d (course o.next [])))
        (bind r λ h n. bind (repeat (suc 512) (another_variable d) [] n) λ m n. bind (ends d n) λ a n. Is (survey_with h m) n)
    by (fronts {o = o} {h = h} {n = n} i e) = at_variables o h e (variables_from_lem n o.next i)
    by (stopped {o = o} {f = f} i) = at_refused o (variables_none f o.next i)

  -- ---- the outcome
  pub data SameOutcome : books.Outcome → SssOutcome → Type 0 where
    built : {l : List kept.Variable} {m : List Variable} → Sames d l m → SameOutcome (books.Built l) (Built m)
    refused : {k p : ℕ} → SameOutcome (books.Refusal k p) (Refusal k p)

  fitting_same : (n : ℕ) {l : List kept.Variable} {m : List Variable} → Sames d l m → SameOutcome (books.fitting n l) (sss_fitting n m)
  unfolding books.fitting sss_fitting
  fitting_same n {l} {m} s = rw (sames_table s) (by (ltb n (length (table_of m)))) where
    by : (q : Bool) → SameOutcome (cond q (books.Refusal 10 0) (books.Built l)) (cond q (Refusal 10 0) (Built m))
    by true = refused
    by false = built s

  named_same : (n : ℕ) (standard : Bool) {l : List kept.Variable} {m : List Variable} → Sames d l m
      → SameOutcome (books.named d n standard l) (judge_names d n standard m)
  unfolding books.named judge_names
  named_same n standard {l} {m} s =
      rw (sames_names s, sames_count s)
      (rw (sames_quote s (name_fault (names_of d m)))
      (by standard (ltb (name_fault (names_of d m)) (length m)) (quote_at m (name_fault (names_of d m))))) where
        by : (a b : Bool) (p : ℕ) → SameOutcome (cond a (cond b (books.Refusal 9 p) (books.fitting n l)) (books.fitting n l))
            (cond a (cond b (Refusal 9 p) (sss_fitting n m)) (sss_fitting n m))
        by true true p = refused
        by true false p = fitting_same n s
        by false b p = fitting_same n s

  pub outcome_same : (n : ℕ) → SameOutcome (books.outcome_in d n) (sss_outcome d n)
  unfolding books.outcome_in sss_outcome
  outcome_same n = by (ltb 1048576 (length d)) survey_same where
    on : {r : Read} {q : Result Survey} → SameRead d r q → SameOutcome (judged d n r) (sss_settled d n q)
    on (whole {t = t} e s) = rw e (named_same n t.heading.standard s)
    on faulty = refused

    by : (q : Bool) → SameRead d (books.survey_of d) (survey_of d)
        → SameOutcome (cond q (books.Refusal 1 0) (judged d n (books.survey_of d))) (cond q (Refusal 1 0) (sss_settled d n (survey_of d)))
    by true s = refused
    by false s = on s

  answers : {o : books.Outcome} {q : SssOutcome} → SameOutcome o q → books.answer_in o ≡ sss_answer q
  unfolding books.answer_in sss_answer
  answers (built s) = rw (sames_count s, sames_lines s)
  answers refused = refl

  tables : {o : books.Outcome} {q : SssOutcome} → SameOutcome o q → (t : List ℤ) → books.table_in o t ≡ sss_table_after q t
  unfolding books.table_in sss_table_after
  tables (built s) t = rw (sames_table s)
  tables refused t = refl

  pub answer_same : (n : ℕ) → books.answer_in (books.outcome_in d n) ≡ sss_answer (sss_outcome d n)
  answer_same n = answers (outcome_same n)

  pub table_same : (n : ℕ) (t : List ℤ) → books.table_in (books.outcome_in d n) t ≡ sss_table_after (sss_outcome d n) t
  table_same n t = tables (outcome_same n) t

  -- a table held against it
  against_by : {o : books.Outcome} {q : SssOutcome} → SameOutcome o q → (t : List ℤ) → held_in o t ≡ sss_held q t
  unfolding held_in
  against_by (built s) t = rw (sames_table s)
  against_by refused t = refl

  pub against_same : (n : ℕ) (t : List ℤ) → held_in (books.outcome_in d n) t ≡ sss_held (sss_outcome d n) t
  against_same n t = against_by (outcome_same n) t
