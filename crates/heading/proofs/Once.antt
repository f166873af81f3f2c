-- DATE, TIME, ORIGIN, USER, STANDARD NAMES, each at most once: the code knows a text that was given by the place behind it, and that place
-- is 0 exactly where the statement was not given. So a statement is read where it was not given before, and is 2 at its word where it was.
use Rattle.std.specs.Prelude.{Ok, Err}
use mathlib.Core.Path.{◌≡◌, refl}
use mathlib.Core.Bool.{Bool, true, false, cond, not, ◌||◌}
use mathlib.Core.List.{List}
use Prim.Native.Nat.{ℕ, zero, suc, ◌≤◌}
use native.Mathlib.Omega.{arith}
use lib.Dec.{eqb}
use borrow.Author.Tests.{ne_eqb}
use Rattle.scan.specs.rule.Loop.{Again, loop_of}
use Rattle.tokens.specs.declared.Fault.{Fault}
use Rattle.tokens.specs.declared.Quoted.{Quoted}
use Rattle.tokens.specs.declared.Choice.{Choice}
use Rattle.tokens.specs.declared.Choice.TheVariants.{Taken, Left}
use Rattle.tokens.specs.rule.Gap.{fault, OrFault}
use Rattle.tokens.specs.Gap.{gap_on, left}
use Rattle.tokens.specs.Token.{choice_of, string_on, past_string, word_on}
use Rattle.tokens.proofs.Aheads.{string_next}
use Rattle.statements.specs.rule.Words.{DATE, TIME, ORIGIN, USER, STANDARD, NAMES}
use Rattle.statements.specs.Note.{notes_on, notes_here}
use Rattle.heading.specs.declared.Heading.{Heading}
use Rattle.heading.specs.declared.Entered.{Entered}
use Rattle.heading.specs.declared.Entry.{Entry}
use Rattle.heading.specs.declared.Entry.TheVariants.{Text, Standard, Other}
use Rattle.heading.specs.Heading.{or, last, entry_of, again, text_at, with_text, once_of, kept_of, text_entry, named, name_entry}
use Rattle.heading.specs.Heading.{no_heading, entered, entry_step}
use Rattle.heading.specs.Given.{given, Reached, none, text, names, Onward, on, over}

-- a text that was read has a place behind it
once_next : (d : List ℕ) (q : Quoted) (t : OrFault ℕ) (m : ℕ) (x : Quoted) → once_of d q t m ≡ Ok x → 2 ≤ x.next
unfolding once_of
once_next d q t m x = by (eqb q.next 0) where
  by : (y : Bool) → cond y (string_on d (Ok m)) (string_on d (again t)) ≡ Ok x → 2 ≤ x.next
  by true e = string_next d (Ok m) x e
  by false e = string_next d (again t) x e

to_three : (P : ℕ → Type 0) → P 0 → P 1 → P 2 → P 3 → (k : ℕ) → k ≤ 3 → P k
to_three P a b c e zero h = a
to_three P a b c e (suc zero) h = b
to_three P a b c e (suc (suc zero)) h = c
to_three P a b c e (suc (suc (suc zero))) h = e
to_three P a b c e (suc (suc (suc (suc k)))) h = absurd (omega arith)

-- one text put in, and text j asked for
put_text : (h : Heading) (q : Quoted) (j : ℕ) → j ≤ 3 → (k : ℕ) → k ≤ 3 → text_at (with_text h k q) j ≡ cond (eqb j k) q (text_at h j)
unfolding text_at with_text
put_text h q =
    to_three (λ (j : ℕ). (k : ℕ) → k ≤ 3 → text_at (with_text h k q) j ≡ cond (eqb j k) q (text_at h j))
    (to_three (λ (k : ℕ). text_at (with_text h k q) 0 ≡ cond (eqb 0 k) q (text_at h 0)) refl refl refl refl)
    (to_three (λ (k : ℕ). text_at (with_text h k q) 1 ≡ cond (eqb 1 k) q (text_at h 1)) refl refl refl refl)
    (to_three (λ (k : ℕ). text_at (with_text h k q) 2 ≡ cond (eqb 2 k) q (text_at h 2)) refl refl refl refl)
    (to_three (λ (k : ℕ). text_at (with_text h k q) 3 ≡ cond (eqb 3 k) q (text_at h 3)) refl refl refl refl)

put_standard : (h : Heading) (q : Quoted) (k : ℕ) → k ≤ 3 → (with_text h k q).standard ≡ h.standard
unfolding with_text
put_standard h q = to_three (λ (k : ℕ). (with_text h k q).standard ≡ h.standard) refl refl refl refl

named_text : (h : Heading) (j : ℕ) → j ≤ 3 → text_at (named h) j ≡ text_at h j
unfolding text_at named
named_text h = to_three (λ (j : ℕ). text_at (named h) j ≡ text_at h j) refl refl refl refl

nothing_text : (j : ℕ) → j ≤ 3 → (text_at no_heading j).next ≡ 0
unfolding text_at
nothing_text = to_three (λ (j : ℕ). (text_at no_heading j).next ≡ 0) refl refl refl refl

module _ (d : List ℕ) where
  -- a text's place behind it is 0 exactly where its statement was not given
  pub given_next : {s : List ℕ} {h : Heading} → Reached d s h → (j : ℕ) → j ≤ 3 → eqb (text_at h j).next 0 ≡ not (given j s)
  unfolding given
  given_next none j l = rw (nothing_text j l)
  given_next (text {s = s} {h = h} {k = k} {q = q} t m r g e) j l = rw (put_text h q j l k g) (by (eqb j k) (given_next r j l)) where
    by : (x : Bool) → eqb (text_at h j).next 0 ≡ not (given j s) → eqb (cond x q (text_at h j)).next 0 ≡ not (x || given j s)
    by true ih = let b = once_next d (text_at h k) t m q e in ne_eqb q.next 0 (λ z. omega arith)
    by false ih = ih
  given_next (names {h = h} r) j l =
      let n : (j ≡ 4 → ⊥) = λ z. omega arith in
      rw (named_text h j l, ne_eqb j 4 n) (given_next r j l)

  pub given_standard : {s : List ℕ} {h : Heading} → Reached d s h → h.standard ≡ given 4 s
  unfolding given named
  given_standard none = refl
  given_standard (text {h = h} {k = k} {q = q} t m r g e) =
      let n : (4 ≡ k → ⊥) = λ z. omega arith in
      rw (put_standard h q k g, ne_eqb 4 k n) (given_standard r)
  given_standard (names r) = refl

  module _ {s : List ℕ} {h : Heading} (r : Reached d s h) where
    -- a text that was not given before is read; a second one is 2 at its word, whatever follows it
    pub text_first : (k m : ℕ) (t : OrFault ℕ) → k ≤ 3 → given k s ≡ false → once_of d (text_at h k) t m ≡ string_on d (Ok m)
    unfolding once_of
    text_first k m t l e = rw (given_next r k l, e)

    pub text_second : (k m n : ℕ) → k ≤ 3 → given k s ≡ true → once_of d (text_at h k) (Ok n) m ≡ Err (fault 2 n)
    unfolding once_of again string_on gap_on
    text_second k m n l e = rw (given_next r k l, e)

    -- and so is STANDARD NAMES
    pub names_first : (m : ℕ) (t : OrFault ℕ) → given 4 s ≡ false → (name_entry d h t m).next ≡ notes_on d (word_on d (Ok m) NAMES)
    unfolding name_entry
    names_first m t e = rw (given_standard r, e)

    pub names_second : (m n : ℕ) → given 4 s ≡ true → (name_entry d h (Ok n) m).next ≡ Err (fault 2 n)
    unfolding name_entry again
    names_second m n e = rw (given_standard r, e)

-- ---- the reader passes through such headings alone, until a refusal or the end of the heading
data Known : Entry → Type 0 where
  a_text : {k m : ℕ} → k ≤ 3 → Known (Text k m)
  the_names : {m : ℕ} → Known (Standard m)
  none_of_them : Known Other

module _ (d : List ℕ) (t : OrFault ℕ) where
  known_or : (c : Choice) (k : ℕ) (z : Entry) → k ≤ 3 → Known z → Known (or c k z)
  known_or (Taken m) k z l h = a_text l
  known_or Left k z l h = h

  known_last : (c : Choice) → Known (last c)
  known_last (Taken m) = the_names
  known_last Left = none_of_them

  known : Known (entry_of d t)
  unfolding entry_of
  known =
      known_or (choice_of d t DATE) 0 _ (omega arith)
      (known_or (choice_of d t TIME) 1 _ (omega arith)
      (known_or (choice_of d t ORIGIN) 2 _ (omega arith)
      (known_or (choice_of d t USER) 3 _ (omega arith)
      (known_last (choice_of d t STANDARD)))))

  notes_over : (f : Fault) → notes_on d (Err f) ≡ Err f
  unfolding notes_on notes_here gap_on left loop_of choice_of
  notes_over f = refl

  module _ {s : List ℕ} {h : Heading} (r : Reached d s h) where
    text_onward : (k m : ℕ) → k ≤ 3 → Onward d s (text_entry d h t k m)
    unfolding text_entry kept_of past_string
    text_onward k m l = by (once_of d (text_at h k) t m) refl where
      by : (p : OrFault Quoted) → once_of d (text_at h k) t m ≡ p
          → Onward d s (entered (with_text h k (kept_of (text_at h k) p)) (notes_on d (past_string p)))
      by (Ok q) e = on k (text t m r l e)
      by (Err f) e = rw (notes_over f) over

    names_onward : (m : ℕ) → Onward d s (name_entry d h t m)
    unfolding name_entry again
    names_onward m = by h.standard t where
      by : (x : Bool) (t : OrFault ℕ) → Onward d s (cond {A = Entered} x (entered (named h) (again t))
          (entered (named h) (notes_on d (word_on d (Ok m) NAMES))))
      by true (Ok n) = over
      by true (Err f) = over
      by false t = on 4 (names r)

    -- from `none` on, every heading of the loop is reached
    pub step_onward : (e : Entered) → entry_step d (entered h t) (entry_of d t) ≡ Again e → Onward d s e
    step_onward e = by (entry_of d t) known where
      by : (k : Entry) → Known k → entry_step d (entered h t) k ≡ Again e → Onward d s e
      by (Text k m) (a_text l) q = let j : text_entry d h t k m ≡ e = cc in rw (← j) (text_onward k m l)
      by (Standard m) the_names q = let j : name_entry d h t m ≡ e = cc in rw (← j) (names_onward m)
      by Other none_of_them q = let z : ◌≡◌ {A = ℕ} 0 1 = cc in absurd (omega arith)
