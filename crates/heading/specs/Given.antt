-- Each at most once, in the paper's words: which statements of a heading were given so far, and the heading that came of them. Statements
-- go by the numbers of `Entry`: 0 DATE, 1 TIME, 2 ORIGIN, 3 USER; 4 is STANDARD NAMES.
use Rattle.std.specs.Prelude.{ℕ, ◌≤◌, ◌≡◌, Bool, false, ◌||◌, List, [], ◌∷◌, eqb, Ok, Err}
use Rattle.tokens.specs.declared.Fault.{Fault}
use Rattle.tokens.specs.declared.Quoted.{Quoted}
use Rattle.heading.specs.declared.Heading.{Heading}
use Rattle.heading.specs.declared.Entered.{Entered}
use Rattle.heading.specs.Heading.{text_at, with_text, once_of, named, no_heading, entered}
use Rattle.tokens.specs.rule.Gap.{OrFault}

-- statement k was given
unfoldable pub given : ℕ → List ℕ → Bool
given k [] = false
given k (j ∷ s) = eqb k j || given k s

-- the headings that the statements of a list, read one after another, come to
pub data Reached (d : List ℕ) : List ℕ → Heading → Type 0 where
  none : Reached d [] no_heading
  text : {s : List ℕ} {h : Heading} {k : ℕ} {q : Quoted} (t : OrFault ℕ) (m : ℕ) → Reached d s h → k ≤ 3
      → once_of d (text_at h k) t m ≡ Ok q → Reached d (k ∷ s) (with_text h k q)
  names : {s : List ℕ} {h : Heading} → Reached d s h → Reached d (4 ∷ s) (named h)

-- behind the statements of a list, one statement more: it was given, or it was refused
pub data Onward (d : List ℕ) (s : List ℕ) : Entered → Type 0 where
  on : {h : Heading} {t : OrFault ℕ} (k : ℕ) → Reached d (k ∷ s) h → Onward d s (entered h t)
  over : {h : Heading} {f : Fault} → Onward d s (entered h (Err f))
