-- EXACTLY WHEN: each number of the call, and of a mark, with what it says in the papers' words.
use Rattle.std.specs.Prelude.{◌≡◌, true, false, List, ℕ, ◌≤◌, ◌<◌, ℤ}
use Rattle.layout.specs.rule.Row.{row_at}
use Rattle.layout.specs.declared.Kind.TheVariants.{Logical}
use Rattle.fields.specs.rule.Field.{Value}
use Rattle.fields.specs.rule.Row.{fits, other_type, not_legal, fit_of}
use Rattle.sound.specs.rule.Sound.{well_formed}
use Rattle.sound.specs.rule.Rows.{rows_of, length_of}
use Rattle.corrections.specs.rule.Correction.{Asked, asks, other_truth, other_kind}

-- the whole call, with a record of n bytes; 0 is a call that is not turned away
pub data ListOutcome (t : List ℤ) (n : ℕ) : ℕ → Type 0 where
  not_formed : well_formed t ≡ false → ListOutcome t n 20
  too_short : well_formed t ≡ true → n < length_of t → ListOutcome t n 22
  taken : well_formed t ≡ true → length_of t ≤ n → ListOutcome t n 0

-- the mark of a correction of row i in such a call, by what it asks; 0 is done
pub data MarkOutcome (t : List ℤ) (i : ℕ) : Asked → ℕ → Type 0 where
  no_row : {a : Asked} → rows_of t ≤ i → MarkOutcome t i a 21
  other_type_lem : {x : Value} → i < rows_of t → fit_of t (rows_of t) (row_at t i) x ≡ other_type → MarkOutcome t i (asks x) 26
  not_legal_lem : {x : Value} → i < rows_of t → fit_of t (rows_of t) (row_at t i) x ≡ not_legal → MarkOutcome t i (asks x) 27
  done : {x : Value} → i < rows_of t → fit_of t (rows_of t) (row_at t i) x ≡ fits → MarkOutcome t i (asks x) 0
  truth_elsewhere : i < rows_of t → ((row_at t i).kind ≡ Logical → ⊥) → MarkOutcome t i other_truth 26
  no_legal_truth : i < rows_of t → (row_at t i).kind ≡ Logical → MarkOutcome t i other_truth 27
  other_kind_lem : i < rows_of t → MarkOutcome t i other_kind 26
