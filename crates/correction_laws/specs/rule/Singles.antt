-- SINGLE WRITES IN LIST ORDER: each correction by the promise of the single call that writes its kind of value, into what the one before it
-- left; and the corrections of a list that leave a row alone.
use Rattle.std.specs.Prelude.{◌≡◌, cond, List, [], ◌∷◌, ℕ, leb, ℤ}
use Rattle.places.specs.rule.Places.{Apart}
use Rattle.layout.specs.rule.Row.{row_at}
use Rattle.fields.specs.rule.Field.{Value}
use Rattle.fields.specs.rule.Row.{places_of}
use Rattle.sound.specs.rule.Rows.{rows_of}
use Rattle.writes.specs.rule.Public.{Written}
use Rattle.corrections.specs.declared.Given.{Given}
use Rattle.corrections.specs.declared.Correction.{Correction}
use Rattle.corrections.specs.rule.Truth.{NoTruth}
use Rattle.corrections.specs.rule.Correction.{asks, other_truth, other_kind, asked_of, mark_of, marked_with}

-- one single write into row i, with its number: a value is written by the promise of the calls that write one; what is no truth is refused
-- as the call that writes a truth refuses it; another kind has no single call, and is 26 after 21
pub data Single (t : List ℤ) (i : ℕ) (g : Given) (old new : List ℕ) (m : ℕ) : Type 0 where
  written : {x : Value} → asked_of g ≡ asks x → Written t i x old new m → Single t i g old new m
  no_truth : asked_of g ≡ other_truth → NoTruth t i old new m → Single t i g old new m
  no_kind : asked_of g ≡ other_kind → m ≡ cond (leb (rows_of t) i) 21 26 → new ≡ old → Single t i g old new m

-- single writes one after the other, each with its number for a mark
pub data Chain (t : List ℤ) : List Correction → List Correction → List ℕ → List ℕ → Type 0 where
  none : {s : List ℕ} → Chain t [] [] s s
  one : {c : Correction} {cs ds : List Correction} {s s' s'' : List ℕ} {m : ℕ} → Single t c.row c.value s s' m → Chain t cs ds s' s''
      → Chain t (c ∷ cs) (marked_with c m ∷ ds) s s''

-- no accepted correction of the list touches a value place of row i, in a record of n bytes
pub data Clear (t : List ℤ) (n i : ℕ) : List Correction → Type 0 where
  over : Clear t n i []
  refused : {c : Correction} {cs : List Correction} → (mark_of t c n ≡ 0 → ⊥) → Clear t n i cs → Clear t n i (c ∷ cs)
  apart : {c : Correction} {cs : List Correction}
      → Apart (places_of t (rows_of t) (row_at t i)) (places_of t (rows_of t) (row_at t c.row)) → Clear t n i cs → Clear t n i (c ∷ cs)
