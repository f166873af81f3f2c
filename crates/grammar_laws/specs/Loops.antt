-- Variables one behind the other, up to the END behind the last, both ways.
use Rattle.std.specs.Prelude.{◌≡◌}
use Rattle.std.proofs.Math.Path.{refl}
use Rattle.std.proofs.Common.{◌∙◌, arith, length-append}
use mathlib.Core.List.{List, [], ◌∷◌, ◌++◌, append_assoc}
use Prim.Native.Nat.{ℕ, zero, suc, ◌-◌, ◌<◌}
use Rattle.std.proofs.Math.ListN.{length}
use borrow.Author.Tests.{leb-false}
use Rattle.scan.specs.rule.Loop.{Again, Done}
use Rattle.scan.specs.rule.Word.{word_at}
use Rattle.scan.specs.Word.{capitals}
use Rattle.scan.specs.declared.Word.{Word}
use Rattle.scan.specs.declared.Word.TheVariants as spelled
use Rattle.scan.proofs.Keywords.{word_exactly}
use Rattle.tokens.specs.declared.Fault.{Fault}
use Rattle.statements.specs.rule.Words.{VARIABLE, END}
use Rattle.survey.specs.rule.Survey.{Figure, Variable}
use Rattle.reading.specs.rule.Result.{Result, Is, Not, bind, turn, repeat}
use Rattle.reading.specs.rule.Least.{named}
use Rattle.reading.specs.rule.Token.{on_word, either}
use Rattle.reading.specs.rule.Statement.{notes}
use Rattle.reading.specs.rule.Variable.{ident_charges}
use Rattle.reading.specs.rule.Whole.{another_variable}
use Rattle.bridge.specs.Lowest.{never, clear, Judged, fine, faulty, judged_view}
use Rattle.grammar.specs.Token.{Here, NoWord, Notes, Statement}
use Rattle.grammar.specs.Token as token
use Rattle.grammar.specs.Grammar.{Variables}
use Rattle.grammar.specs.Grammar as grammar
use Rattle.grammar.specs.Faults.{Clean, variable_faults, variables_faults}
use Rattle.grammar.specs.Refusal.{Then, inside, behind, only, Noted, noted, NotesStops, sound, VariableStops, VariableRead}
use Rattle.grammar.specs.Refusal.{VariablesStops}
use Rattle.grammar.specs.Refusal as refusal
use Rattle.grammar_laws.specs.Views.{View, reads, halts, recast, no_word, word_at_lem, word_not, judged_there, clean_both, clean_left}
use Rattle.grammar_laws.specs.Views.{clean_right}
use Rattle.grammar_laws.specs.Places.{differ, other_word}
use Rattle.grammar_laws.specs.Notes.{note_capitals, notes_view, notes_is, notes_halted}
use Rattle.grammar_laws.specs.Variables.{statement_back, statement_fore, variable_view, variable_is, variable_halted}

module _ (d : List ℕ) where
  variable_back : {n k m : ℕ} {v : Variable} → Notes d n k → grammar.Variable d k v m → grammar.Variable d n v m
  variable_back r (grammar.variable s y na la ty w po re e) = grammar.variable (statement_back d r s) y na la ty w po re e

  variables_back : {n k m : ℕ} {l : List Variable} → Notes d n k → Variables d k l m → Variables d n l m
  variables_back r (grammar.one v) = grammar.one (variable_back r v)
  variables_back r (grammar.Variables.more v l) = grammar.Variables.more (variable_back r v) l

  -- they begin with VARIABLE, behind notes
  data Fore (P : ℕ → Type 0) (n : ℕ) : Type 0 where
    fore : {k j : ℕ} → Notes d n k → Here d VARIABLE k j → P k → Fore P n

  variable_fore : {n m : ℕ} {v : Variable} → grammar.Variable d n v m → Fore (λ n. grammar.Variable d n v m) n
  variable_fore (grammar.variable (token.statement s h) y na la ty w po re e) =
      fore s h (grammar.variable (statement_fore d s h) y na la ty w po re e)

  variables_fore : {n m : ℕ} {l : List Variable} → Variables d n l m → Fore (λ n. Variables d n l m) n
  variables_fore {n} (grammar.one {m = m} {v = v} x) = on (variable_fore x) where
    on : Fore (λ n. grammar.Variable d n v m) n → Fore (λ n. Variables d n (v ∷ []) m) n
    on (fore s h y) = fore s h (grammar.one y)
  variables_fore {n} (grammar.Variables.more {k = k} {m = m} {v = v} {l = l} x r) = on (variable_fore x) where
    on : Fore (λ n. grammar.Variable d n v k) n → Fore (λ n. Variables d n (v ∷ l) m) n
    on (fore s h y) = fore s h (grammar.Variables.more y r)

  -- a variable that was read is one of 512 at most
  ident_few : (earlier : List Variable) (x : Figure) → Clean (ident_charges earlier x) → length earlier < 512
  unfolding ident_charges
  ident_few earlier x c = by (judged_view (ident_charges earlier x) (tt {0}) 0) (judged_there (ident_charges earlier x) tt 0 c) where
    by : {r : Result Unit} → Judged (ident_charges earlier x) tt 0 r → r ≡ Is tt 0 → length earlier < 512
    by (fine (clear p (clear q (clear r (clear s z))))) e = leb-false 512 (length earlier) s
    by faulty e = never cc

  few : (earlier : List Variable) {n k : ℕ} {v : Variable} → VariableRead d earlier n v k → length earlier < 512
  few earlier {v = v} (sound x c) = ident_few earlier v.ident (clean_left (ident_charges earlier v.ident) _ c)

  -- ---- all of them, and END
  pub data AllRead (earlier : List Variable) (n : ℕ) : List Variable → ℕ → Type 0 where
    all_read : {l : List Variable} {k m : ℕ} → Variables d n l k → Statement d END k m → Clean (variables_faults earlier l)
        → AllRead earlier n (earlier ++ l) m

  abbrev Few : ℕ → List Variable → Type 0
  Few f l = 512 - length l < f

  next_few : {f : ℕ} (l : List Variable) (v : Variable) → length l < 512 → Few (suc f) l → Few f (l ++ v ∷ [])
  next_few l v h g = rw (length-append l (v ∷ [])) (omega arith)

  finish : {l : List Variable} {v : Variable} {n k j m : ℕ} → VariableRead d l n v k → Noted d k j → Here d END j m
      → AllRead l n (l ++ v ∷ []) m
  unfolding variables_faults named
  finish {l} {v} (sound x c) (noted s o) h = all_read (grammar.one x) (token.statement s h) (clean_both (variable_faults l v) [] c refl)

  continue : {l r : List Variable} {v : Variable} {n k j m : ℕ} → VariableRead d l n v k → Noted d k j → AllRead (l ++ v ∷ []) j r m
      → AllRead l n r m
  unfolding variables_faults
  continue {l} {v = v} (sound x c) (noted s o) (all_read {l = t} y e z) =
      rw (append_assoc l (v ∷ []) t) (all_read (grammar.Variables.more x (variables_back s y)) e
      (clean_both (variable_faults l v) (variables_faults (l ++ v ∷ []) t) c z))

  abbrev Viewed : ℕ → Type 0
  Viewed f = (l : List Variable) (n : ℕ) → Few f l → View (AllRead l n) (VariablesStops d l n) (repeat f (another_variable d) l n)

  loop_view : (f : ℕ) → Viewed f
  unfolding repeat another_variable capitals
  loop_view zero l n h = absurd (omega arith)
  loop_view (suc f) l n h = at_variable (variable_view d l n) (loop_view f) where
    at_end_lem : (v : Variable) {k : ℕ} (j : ℕ) → Viewed f → VariableRead d l n v k → Noted d k j → (w : Word) → word_at d j END ≡ w
        → View (AllRead l n) (VariablesStops d l n)
        (bind (on_word (λ m. Is (Done (l ++ v ∷ [])) m) (λ m. Is (Again (l ++ v ∷ [])) m) j w) (turn (repeat f (another_variable d))))
    at_end_lem v j ih x s (spelled.Matched m) e = reads (finish x s ((word_exactly d j m END refl).0 e))
    at_end_lem v j ih x s spelled.Not e =
        recast (λ r m. continue x s) (λ f. refusal.VariablesStops.later x s (no_word d refl e)) (ih (l ++ v ∷ []) j (next_few l v (few l x)
        h))

    at_notes : (v : Variable) {k : ℕ} → Viewed f → VariableRead d l n v k → {r : Result Unit} → View (only (Noted d k)) (NotesStops d k) r
        → View (AllRead l n) (VariablesStops d l n)
        (bind (bind r λ u. either d END (λ m. Is (Done (l ++ v ∷ [])) m) (λ m. Is (Again (l ++ v ∷ [])) m))
        (turn (repeat f (another_variable d))))
    at_notes v ih x (reads {m = j} s) = at_end_lem v j ih x s (word_at d j END) refl
    at_notes v ih x (halts z) = halts (refusal.in_variable (behind x z))

    at_variable : {r : Result Variable} → View (VariableRead d l n) (VariableStops d l n) r → Viewed f
        → View (AllRead l n) (VariablesStops d l n)
        (bind (bind r λ v n. bind (notes d n) λ u. either d END (λ m. Is (Done (l ++ v ∷ [])) m) (λ m. Is (Again (l ++ v ∷ [])) m))
        (turn (repeat f (another_variable d))))
    at_variable (reads {a = v} {m = k} x) ih = at_notes v ih x (notes_view d k)
    at_variable (halts z) ih = halts (refusal.in_variable (inside z))

  last_is : (l : List Variable) {v : Variable} {n k m : ℕ} → VariableRead d l n v k → Statement d END k m → (f : ℕ)
      → repeat (suc f) (another_variable d) l n ≡ Is (l ++ v ∷ []) m
  unfolding repeat another_variable capitals differ
  last_is l x (token.statement s h) f =
      rw (variable_is d l x, notes_is d (noted s (other_word d {w = END} refl note_capitals refl h)), word_at_lem d {w = END} refl h)

  more_is : (l : List Variable) {v : Variable} {n k j i : ℕ} → VariableRead d l n v k → Notes d k j → Here d VARIABLE j i → (f : ℕ)
      → repeat (suc f) (another_variable d) l n ≡ repeat f (another_variable d) (l ++ v ∷ []) j
  unfolding repeat another_variable capitals differ
  more_is l x s h f =
      rw (
        variable_is d l x,
        notes_is d (noted s (other_word d {w = VARIABLE} refl note_capitals refl h)),
        word_not d {w = END} refl (other_word d {w = VARIABLE} refl refl refl h),
      )

  onward : (l : List Variable) {v : Variable} {t : List Variable} {n k i m : ℕ} → VariableRead d l n v k → Fore (λ n. Variables d n t i) k
      → (f : ℕ) → ((j : ℕ) → Variables d j t i → repeat f (another_variable d) (l ++ v ∷ []) j ≡ Is ((l ++ v ∷ []) ++ t) m)
      → repeat (suc f) (another_variable d) l n ≡ Is (l ++ v ∷ t) m
  onward l {v} {t} x (fore {k = j} s h u) f ih = more_is l x s h f ∙ (rw (append_assoc l (v ∷ []) t) at (ih j u))

  loop_is : {n k m : ℕ} {t : List Variable} → Variables d n t k → Statement d END k m → (l : List Variable) → Clean (variables_faults l t)
      → (f : ℕ) → Few f l → repeat f (another_variable d) l n ≡ Is (l ++ t) m
  unfolding variables_faults
  loop_is x e l c zero h = absurd (omega arith)
  loop_is (grammar.one {v = v} x) e l c (suc f) h = last_is l (sound x (clean_left (variable_faults l v) [] c)) e f
  loop_is (grammar.Variables.more {v = v} {l = t} x r) e l c (suc f) h =
      let y = sound x (clean_left (variable_faults l v) (variables_faults (l ++ v ∷ []) t) c) in
      let z = clean_right (variable_faults l v) (variables_faults (l ++ v ∷ []) t) c in
      onward l y (variables_fore r) f (λ j u. loop_is u e (l ++ v ∷ []) z f (next_few l v (few l y) h))

  in_halted : {l : List Variable} {n : ℕ} {f : Fault} → Then (VariableStops d l n) (VariableRead d l n) (λ v n. NotesStops d n) f → (g : ℕ)
      → repeat (suc g) (another_variable d) l n ≡ Not f
  unfolding repeat another_variable
  in_halted {l} {n} (inside z) g = rw (variable_halted d l n z)
  in_halted {l} (behind {m = k} x z) g = rw (variable_is d l x, notes_halted d k z)

  later_is : (l : List Variable) {v : Variable} {n k j : ℕ} → VariableRead d l n v k → Noted d k j → NoWord d END j → (f : ℕ)
      → repeat (suc f) (another_variable d) l n ≡ repeat f (another_variable d) (l ++ v ∷ []) j
  unfolding repeat another_variable capitals
  later_is l x s o f = rw (variable_is d l x, notes_is d s, word_not d {w = END} refl o)

  loop_halted : {l : List Variable} {n : ℕ} {f : Fault} → VariablesStops d l n f → (g : ℕ) → Few g l → repeat g (another_variable d) l n
      ≡ Not f
  loop_halted z zero h = absurd (omega arith)
  loop_halted (refusal.in_variable z) (suc g) h = in_halted z g
  loop_halted {l} (refusal.VariablesStops.later {v = v} x s o z) (suc g) h =
      later_is l x s o g ∙ loop_halted z g (next_few l v (few l x) h)

  pub variables_view : (n : ℕ) → View (AllRead [] n) (VariablesStops d [] n) (repeat 513 (another_variable d) [] n)
  variables_view n = loop_view 513 [] n (omega arith)

  pub variables_is : {n k m : ℕ} {l : List Variable} → Variables d n l k → Statement d END k m → Clean (variables_faults [] l)
      → repeat 513 (another_variable d) [] n ≡ Is l m
  variables_is x e c = loop_is x e [] c 513 (omega arith)

  pub variables_halted : (n : ℕ) {f : Fault} → VariablesStops d [] n f → repeat 513 (another_variable d) [] n ≡ Not f
  variables_halted n z = loop_halted z 513 (omega arith)
