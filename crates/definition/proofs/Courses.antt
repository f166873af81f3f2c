-- The variables one after the other: what the code keeps of them, and what one more adds.
use Rattle.std.specs.Prelude.{Ok, Err}
use mathlib.Core.Path.{◌≡◌, refl, ap}
use mathlib.Core.Bool.{Bool, true, false, cond, ◌||◌}
use mathlib.Core.List.{List}
use Prim.Native.Nat.{ℕ, ◌-◌, ◌<◌}
use native.Mathlib.Omega.{arith}
use borrow.Author.Tests.{ltb-true}
use lib.Dec.{eqb, ltb}
use lib.ListN.{length}
use Rattle.scan.specs.rule.Loop.{Again, Done}
use Rattle.scan.proofs.Loops.{loop_again, loop_done}
use Rattle.tokens.specs.declared.Figures.{Figures}
use Rattle.tokens.specs.declared.Choice.{Choice}
use Rattle.tokens.specs.declared.Choice.TheVariants.{Taken, Left}
use Rattle.tokens.specs.rule.Gap.{fault, OrFault}
use Rattle.tokens.specs.Token.{choice_of, number_on}
use Rattle.statements.specs.rule.Words.{END, VARIABLE}
use Rattle.statements.specs.Note.{notes_on, statement_on}
use Rattle.variables.specs.Ident.{wrong_ident, judge_ident, ident_on}
use Rattle.measures.specs.Survey.{Variable, lines_all, ident_met}
use Rattle.measures.proofs.Snoc.{added, length_with}
use Rattle.entries.specs.Entry.{Entry, entry_of}
use Rattle.entries.specs.Entry.{Stored}
use Rattle.entries.specs.Entry as entry
use Rattle.entries.proofs.Goods.{entry_left}
use Rattle.definition.specs.Books.{Variables, Course, course, end_or, entered, variable_step, variables_from}
use Rattle.definition.specs.Books as variables

none : {A : Type 0} → ◌≡◌ {A = ℕ} 0 1 → A
none e = absurd (omega arith)

-- ---- the idents met are those that are marked
module _ (d : List ℕ) (t : OrFault ℕ) (met other : ℕ → Bool) (same : (n : ℕ) → n < 10000 → met n ≡ other n) where
  wrong_same : (x : Figures) → wrong_ident met x ≡ wrong_ident other x
  unfolding wrong_ident
  wrong_same x = by (ltb 4 x.count) (ltb x.size 10000) refl where
    by : (p q : Bool) → ltb x.size 10000 ≡ q → cond p true (cond q (eqb x.size 0 || met x.size) true)
        ≡ cond p true (cond q (eqb x.size 0 || other x.size) true)
    by true q e = refl
    by false true e = ap (λ (b : Bool). eqb x.size 0 || b) (same x.size (ltb-true x.size 10000 e))
    by false false e = refl

  ident_same : (count : ℕ) → ident_on d t met count ≡ ident_on d t other count
  unfolding ident_on judge_ident
  ident_same count = by (number_on d (statement_on d t VARIABLE)) where
    by : (n : OrFault Figures) → judge_ident met count n ≡ judge_ident other count n
    by (Ok x) = rw (wrong_same x)
    by (Err f) = refl

  pub entry_same : (count before : ℕ) → entry_of d t met count before ≡ entry_of d t other count before
  unfolding entry_of
  entry_same count before = rw (ident_same count)

-- ---- the loop of the definition
module _ (d : List ℕ) where
  abbrev pub next_entry : Course → Entry
  next_entry s = entry_of d s.at (ident_met s.earlier) (length s.earlier) (lines_all s.earlier)

  falls : (s s' : Course) → variable_step d s ≡ Again s' → 512 - length s'.earlier < 512 - length s.earlier
  unfolding variable_step
  falls s s' = by (next_entry s) refl where
    choice : (v : Variable) (n : ℕ) (k : Choice) → length s.earlier < 512 → end_or (added s.earlier v) (notes_on d (Ok n)) k ≡ Again s'
        → 512 - length s'.earlier < 512 - length s.earlier
    choice v n (Taken m) h e = none cc
    choice v n Left h e =
        let j : course (notes_on d (Ok n)) (added s.earlier v) ≡ s' = cc in
        rw (← j) (omega (arith, length_with s.earlier v))

    by : (o : Entry) → next_entry s ≡ o → entered d s.earlier o ≡ Again s' → 512 - length s'.earlier < 512 - length s.earlier
    by (entry.Is v n) i e = choice v n (choice_of d (notes_on d (Ok n)) END)
        (entry_left d s.at (ident_met s.earlier) (length s.earlier) (lines_all s.earlier) v n i) e
    by (entry.Not f) i e = none cc

  out : Variables
  out = variables.Not (fault 0 0)

  module _ (s : Course) where
    pub from_again : (s' : Course) → variable_step d s ≡ Again s' → variables_from d s ≡ variables_from d s'
    unfolding variables_from out
    from_again s' e = loop_again (variable_step d) out (λ s. 512 - length s.earlier) falls {s = s} {s' = s'} e

    pub from_done : (a : Variables) → variable_step d s ≡ Done a → variables_from d s ≡ a
    unfolding variables_from out
    from_done a e = loop_done (variable_step d) out (λ s. 512 - length s.earlier) falls {s = s} {a = a} e
