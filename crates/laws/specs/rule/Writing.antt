-- The write of one row's value: exactly which number refuses it, and the laws of corrections, over THE READING `reading_of` and the
-- promise `Written`, which is that of the call and of the exported functions too, for every kind of row and every well-formed table.
use Rattle.std.specs.Prelude.{◌≡◌, true, false, List, ℕ, ◌≤◌, ◌<◌, ℤ}
use Rattle.layout.specs.rule.Row.{row_at}
use Rattle.fields.specs.rule.Field.{Value}
use Rattle.fields.specs.rule.Row.{fits, other_type, not_legal, too_many, fit_of}
use Rattle.sound.specs.rule.Sound.{well_formed}
use Rattle.sound.specs.rule.Rows.{rows_of, length_of}

-- ---- EXACTLY WHEN: each number with what it says, in document 01's words; 0 is a write without fault
pub record Sound (t : List ℤ) (i n : ℕ) : Type 0 where
  pub formed : well_formed t ≡ true
  pub row : i < rows_of t
  pub long : length_of t ≤ n

pub data WritingOutcome (t : List ℤ) (i : ℕ) (x : Value) (n : ℕ) : ℕ → Type 0 where
  not_formed : well_formed t ≡ false → WritingOutcome t i x n 20
  no_row : well_formed t ≡ true → rows_of t ≤ i → WritingOutcome t i x n 21
  too_short : well_formed t ≡ true → i < rows_of t → n < length_of t → WritingOutcome t i x n 22
  other_type_lem : Sound t i n → fit_of t (rows_of t) (row_at t i) x ≡ other_type → WritingOutcome t i x n 26
  not_legal_lem : Sound t i n → fit_of t (rows_of t) (row_at t i) x ≡ not_legal → WritingOutcome t i x n 27
  too_many_lem : Sound t i n → fit_of t (rows_of t) (row_at t i) x ≡ too_many → WritingOutcome t i x n 28
  no_fault : Sound t i n → fit_of t (rows_of t) (row_at t i) x ≡ fits → WritingOutcome t i x n 0
