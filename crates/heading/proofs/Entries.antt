-- The statements of a heading are the first, and then those behind it; each leaves less to read.
use Rattle.std.specs.Prelude.{Ok, Err}
use mathlib.Core.Path.{◌≡◌, refl, ◌∙◌, sym}
use mathlib.Core.Bool.{Bool, true, false, cond}
use mathlib.Core.List.{List, [], ◌∷◌}
use Prim.Native.Nat.{ℕ, ◌≤◌, ◌<◌}
use native.Mathlib.Omega.{arith}
use lib.Dec.{eqb}
use Rattle.scan.specs.rule.Loop.{Again}
use Rattle.scan.proofs.Loops.{loop_again, loop_done}
use Rattle.tokens.specs.declared.Choice.{Choice}
use Rattle.tokens.specs.declared.Choice.TheVariants.{Taken, Left}
use Rattle.tokens.specs.Gap.{left}
use Rattle.tokens.specs.Token.{choice_of, word_on, string_on, past_string}
use Rattle.tokens.proofs.Aheads.{taken_less, string_left, word_left}
use Rattle.statements.specs.rule.Words.{NAMES}
use Rattle.statements.specs.Note.{notes_on}
use Rattle.statements.proofs.Notes.{notes_left}
use Rattle.heading.specs.declared.Heading.{Heading}
use Rattle.heading.specs.declared.Entered.{Entered}
use Rattle.heading.specs.declared.Entry.{Entry}
use Rattle.heading.specs.declared.Entry.TheVariants.{Text, Standard, Other}
use Rattle.heading.specs.Heading.{or, last, entry_of, again, once_of, text_at, text_entry, named, name_entry, no_heading, entered}
use Rattle.heading.specs.Heading.{entry_step, entries_from}
use Rattle.tokens.specs.rule.Gap.{OrFault}

-- where a word was taken
data Takes (d : List ℕ) (t : OrFault ℕ) : Entry → Type 0 where
  text : {k m : ℕ} → left d (Ok m) < left d t → Takes d t (Text k m)
  names : {m : ℕ} → left d (Ok m) < left d t → Takes d t (Standard m)
  none : Takes d t Other

module _ (d : List ℕ) (t : OrFault ℕ) where
  take_or : (x : ℕ) (w : List ℕ) (k : ℕ) (z : Entry) → Takes d t z → Takes d t (or (choice_of d t (x ∷ w)) k z)
  take_or x w k z h = by (choice_of d t (x ∷ w)) refl where
    by : (c : Choice) → choice_of d t (x ∷ w) ≡ c → Takes d t (or c k z)
    by (Taken m) e = text (taken_less d t x w e)
    by Left e = h

  take_last : (x : ℕ) (w : List ℕ) → Takes d t (last (choice_of d t (x ∷ w)))
  take_last x w = by (choice_of d t (x ∷ w)) refl where
    by : (c : Choice) → choice_of d t (x ∷ w) ≡ c → Takes d t (last c)
    by (Taken m) e = names (taken_less d t x w e)
    by Left e = none

  takes : Takes d t (entry_of d t)
  unfolding entry_of
  takes =
      take_or 68 (65 ∷ 84 ∷ 69 ∷ []) 0 _
      (take_or 84 (73 ∷ 77 ∷ 69 ∷ []) 1 _
      (take_or 79 (82 ∷ 73 ∷ 71 ∷ 73 ∷ 78 ∷ []) 2 _
      (take_or 85 (83 ∷ 69 ∷ 82 ∷ []) 3 _
      (take_last 83 (84 ∷ 65 ∷ 78 ∷ 68 ∷ 65 ∷ 82 ∷ 68 ∷ [])))))

  again_left : left d (again t) ≤ 0
  unfolding again left
  again_left = by t where
    by : (t : OrFault ℕ) → left d (again t) ≤ 0
    by (Ok n) = omega arith
    by (Err f) = omega arith

  text_less : (h : Heading) (k m : ℕ) → left d (Ok m) < left d t → left d (text_entry d h t k m).next < left d t
  unfolding text_entry once_of
  text_less h k m l = by (eqb (text_at h k).next 0) where
    by : (q : Bool) → left d (notes_on d (past_string (cond q (string_on d (Ok m)) (string_on d (again t))))) < left d t
    by true = omega (arith, notes_left d (past_string (string_on d (Ok m))), string_left d (Ok m))
    by false = omega (arith, notes_left d (past_string (string_on d (again t))), string_left d (again t), again_left)

  names_less : (h : Heading) (m : ℕ) → left d (Ok m) < left d t → left d (name_entry d h t m).next < left d t
  unfolding name_entry
  names_less h m l = by h.standard where
    by : (q : Bool) → left d (cond {A = Entered} q (entered (named h) (again t))
        (entered (named h) (notes_on d (word_on d (Ok m) NAMES)))).next < left d t
    by true = omega (arith, again_left)
    by false = omega (arith, notes_left d (word_on d (Ok m) NAMES), word_left d (Ok m) 78 (65 ∷ 77 ∷ 69 ∷ 83 ∷ []))

module _ (d : List ℕ) where
  pub falls : (e f : Entered) → entry_step d e (entry_of d e.next) ≡ Again f → left d f.next < left d e.next
  falls e f = by (entry_of d e.next) (takes d e.next) where
    by : (k : Entry) → Takes d e.next k → entry_step d e k ≡ Again f → left d f.next < left d e.next
    by (Text k m) (text l) q = let j : text_entry d e.heading e.next k m ≡ f = cc in
        rw (← j) (text_less d e.next e.heading k m l)
    by (Standard m) (names l) q = let j : name_entry d e.heading e.next m ≡ f = cc in
        rw (← j) (names_less d e.next e.heading m l)
    by Other none q = let z : ◌≡◌ {A = ℕ} 0 1 = cc in absurd (omega arith)

  module _ (h : Heading) (t : OrFault ℕ) {k : Entry} (e : k ≡ entry_of d t) where
    pub entries_text : {n m : ℕ} → k ≡ Text n m → (entries_from d (entered h t) ≡ entries_from d (text_entry d h t n m))
        × (left d (text_entry d h t n m).next < left d t)
    unfolding entries_from
    entries_text {n} {m} f =
        let q : entry_step d (entered h t) (entry_of d t) ≡ Again (text_entry d h t n m) = rw (sym e ∙ f) in (
          loop_again (λ e. entry_step d e (entry_of d e.next)) (entered no_heading (Ok 0)) (λ e. left d e.next) falls {s = entered h t}
              {s' = text_entry d h t n m} q,
          falls (entered h t) (text_entry d h t n m) q,
        )

    pub entries_names : {m : ℕ} → k ≡ Standard m → (entries_from d (entered h t) ≡ entries_from d (name_entry d h t m))
        × (left d (name_entry d h t m).next < left d t)
    unfolding entries_from
    entries_names {m} f =
        let q : entry_step d (entered h t) (entry_of d t) ≡ Again (name_entry d h t m) = rw (sym e ∙ f) in (
          loop_again (λ e. entry_step d e (entry_of d e.next)) (entered no_heading (Ok 0)) (λ e. left d e.next) falls {s = entered h t}
              {s' = name_entry d h t m} q,
          falls (entered h t) (name_entry d h t m) q,
        )

    pub entries_other : k ≡ Other → entries_from d (entered h t) ≡ entered h t
    unfolding entries_from
    entries_other f = loop_done (λ e. entry_step d e (entry_of d e.next)) (entered no_heading (Ok 0)) (λ e. left d e.next) falls
        {s = entered h t} (rw (sym e ∙ f))
