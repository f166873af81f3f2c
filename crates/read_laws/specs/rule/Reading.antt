-- DEMAND 2 FOR READING, as one theorem: `read_named` and `read_only`. What the call promises is so exactly when one line of
-- `ReadOutcome`
-- is: each refusal with what it says, and each value with the form of the bytes that say it (Exactly.antt).
use Rattle.std.specs.Prelude.{◌≡◌, Bool, true, false, List, ◌++◌, ℕ, ◌-◌, ◌≤◌, ◌<◌, ℤ, length, drop}
use Rattle.places.specs.rule.Places.{pick}
use Rattle.layout.specs.rule.Row.{row_at}
use Rattle.fields.specs.rule.Field.{missing, number, members, text, truth, Field, holds, illegal}
use Rattle.fields.specs.rule.Row.{places_of}
use Rattle.sound.specs.rule.Sound.{well_formed}
use Rattle.sound.specs.rule.Rows.{rows_of, length_of}
use Rattle.records.specs.rule.First.{row_fault}
use Rattle.records.specs.rule.Value.{Outcome, nothing, number_is, set_of, text_at, truth_is, refused, bad_field}
use Rattle.read_laws.specs.rule.Exactly.{FieldSays}

-- ---- the words
-- the table is well formed and has the row, and the record is long enough
pub record Readable (t : List ℤ) (i : ℕ) (bytes : List ℕ) : Type 0 where
  pub formed : well_formed t ≡ true
  pub row : i < rows_of t
  pub long : length_of t ≤ length bytes

-- the bytes at the value places of row i say this
abbrev pub Row-says : List ℤ → ℕ → List ℕ → Field → Type 0
Row-says t i bytes f = FieldSays t (rows_of t) (row_at t i) (pick bytes (places_of t (rows_of t) (row_at t i))) (row_at t i).kind f

-- the outcome, and the list after it: "a set fills the start of a lent list; the rest is kept", and all else keeps it
pub data ReadOutcome (t : List ℤ) (i : ℕ) (bytes : List ℕ) (list : List ℤ) : List ℤ → Outcome → Type 0 where
  not_formed : well_formed t ≡ false → ReadOutcome t i bytes list list (refused 20)
  no_row : well_formed t ≡ true → rows_of t ≤ i → ReadOutcome t i bytes list list (refused 21)
  too_short : well_formed t ≡ true → i < rows_of t → length bytes < length_of t → ReadOutcome t i bytes list list (refused 22)
  is_illegal_lem : Readable t i bytes → Row-says t i bytes illegal
      → ReadOutcome t i bytes list list (bad_field (row_fault t (rows_of t) bytes i))
  is_missing : Readable t i bytes → Row-says t i bytes (holds missing) → ReadOutcome t i bytes list list nothing
  is_number : {z : ℤ} → Readable t i bytes → Row-says t i bytes (holds (number z)) → ReadOutcome t i bytes list list (number_is z)
  is_set : {ms : List ℤ} → Readable t i bytes → Row-says t i bytes (holds (members ms)) → length ms ≤ length list
      → ReadOutcome t i bytes list (ms ++ drop (length ms) list) (set_of (length ms))
  short_list : {ms : List ℤ} → Readable t i bytes → Row-says t i bytes (holds (members ms)) → length list < length ms
      → ReadOutcome t i bytes list list (refused 25)
  is_text_lem : {x : List ℕ} → Readable t i bytes → Row-says t i bytes (holds (text x))
      → ReadOutcome t i bytes list list (text_at ((row_at t i).start - 1) (length x))
  is_truth : {b : Bool} → Readable t i bytes → Row-says t i bytes (holds (truth b)) → ReadOutcome t i bytes list list (truth_is b)
