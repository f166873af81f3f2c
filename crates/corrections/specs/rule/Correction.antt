-- C-14: "a list of row and value pairs for one record: numbers, truths and missing only. The call marks each one done or refused with its
-- number, and goes on past a refusal. Record and marks must equal what single writes in list order give."
use Rattle.std.specs.Prelude.{◌≡◌, true, false, cond, List, [], ◌∷◌, ℕ, eqb, leb, ltb, ℤ, pos, length}
use Rattle.cells.specs.rule.Cell.{eq_z}
use Rattle.fields.specs.rule.Field.{Value, missing, number, truth}
use Rattle.sound.specs.rule.Sound.{well_formed}
use Rattle.sound.specs.rule.Rows.{rows_of, length_of}
use Rattle.writes.specs.rule.Public.{refusal_of, record_after}
use Rattle.corrections.specs.declared.Given.{Given}
use Rattle.corrections.specs.declared.Correction.{Correction}
use Rattle.corrections.specs.rule.Truth.{bad_truth}

-- ---- WHAT A CORRECTION ASKS: a value to be written, a truth that is neither 0 nor 1, or a kind that no correction has
pub data Asked : Type 0 where
  asks : Value → Asked
  other_truth : Asked
  other_kind : Asked

unfoldable pub truth_asked : ℤ → Asked
truth_asked z = cond (eq_z z (pos 0)) (asks (truth false)) (cond (eq_z z (pos 1)) (asks (truth true)) other_truth)

-- kinds are those of reading: 0 missing, whatever number stands beside it, 1 a number, 4 a truth
unfoldable pub asked_of : Given → Asked
asked_of g =
    cond (eqb g.kind 0) (asks missing)
    (cond (eqb g.kind 1) (asks (number g.number)) (cond (eqb g.kind 4) (truth_asked g.number) other_kind))

-- ---- ITS SINGLE WRITE into row i of a record of n bytes: the number, which is that of the single call; another kind is 26, after 21
unfoldable pub mark_by : List ℤ → ℕ → ℕ → Asked → ℕ
mark_by t i n (asks x) = refusal_of t i x n
mark_by t i n other_truth = bad_truth t i n
mark_by t i n other_kind = cond (leb (rows_of t) i) 21 26

-- and the record afterwards
unfoldable pub record_by : List ℤ → ℕ → Asked → List ℕ → List ℕ
record_by t i (asks x) old = record_after t i x old
record_by t i other_truth old = old
record_by t i other_kind old = old

abbrev pub mark_of : List ℤ → Correction → ℕ → ℕ
mark_of t c n = mark_by t c.row n (asked_of c.value)

abbrev pub corrected_by : List ℤ → List ℕ → Correction → List ℕ
corrected_by t old c = record_by t c.row (asked_of c.value) old

-- the correction with a mark: "only marks change"
abbrev pub marked_with : Correction → ℕ → Correction
marked_with c m = record { row = c.row; value = c.value; mark = m }

abbrev pub corrected : List ℤ → List ℕ → Correction → Correction
corrected t old c = marked_with c (mark_of t c (length old))

-- ---- THE LIST, in its order: each correction is marked by its write into what those before it left, and the record after all of them
unfoldable pub corrected_all : List ℤ → List Correction → List ℕ → List Correction
corrected_all t [] old = []
corrected_all t (c ∷ cs) old = corrected t old c ∷ corrected_all t cs (corrected_by t old c)

unfoldable pub written_all : List ℤ → List Correction → List ℕ → List ℕ
written_all t [] old = old
written_all t (c ∷ cs) old = written_all t cs (corrected_by t old c)

-- "20 and 22 turn away the whole call before any mark", lowest first
unfoldable pub whole_refusal : List ℤ → ℕ → ℕ
whole_refusal t n = cond (well_formed t) (cond (ltb n (length_of t)) 22 0) 20

unfoldable pub corrections_after : List ℤ → List Correction → List ℕ → List Correction
corrections_after t list old = cond (eqb (whole_refusal t (length old)) 0) (corrected_all t list old) list

unfoldable pub record_left : List ℤ → List Correction → List ℕ → List ℕ
record_left t list old = cond (eqb (whole_refusal t (length old)) 0) (written_all t list old) old

-- THE PROMISE of the call: the number, the list and the record afterwards
pub record ListCorrected (t : List ℤ) (list list' : List Correction) (old new : List ℕ) (r : ℕ) : Type 0 where
  pub says : r ≡ whole_refusal t (length old)
  pub marks : list' ≡ corrections_after t list old
  pub leaves : new ≡ record_left t list old
