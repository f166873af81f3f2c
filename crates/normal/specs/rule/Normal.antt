-- One normal form of a record: "a call that writes back every row as it reads". Refusals: 20, then 90 where two rows share a value
-- place, then those of judging the record.
use Rattle.std.specs.Prelude.{◌≡◌, cond, List, ℕ, zero, suc, ℤ}
use Rattle.layout.specs.rule.Row.{row_at}
use Rattle.layout.specs.declared.Row.{Row}
use Rattle.fields.specs.rule.Field.{Field, holds, illegal}
use Rattle.fields.specs.rule.Row.{reading_of, written_of}
use Rattle.sound.specs.rule.Sound.{well_formed}
use Rattle.sound.specs.rule.Rows.{rows_of}
use Rattle.sharing.specs.rule.Sharing.{shares_none}
use Rattle.records.specs.rule.Verdict.{Verdict, refused, judged_as, verdict_of}
use Rattle.files.specs.rule.File.{is_sound}
use Rattle.normal.specs.declared.Normal.{Normal}
use Rattle.normal.specs.declared.Normal.TheVariants.{Shared, As}

-- what a row reads written back to it (a record that is judged sound has no illegal row)
unfoldable pub field_back : List ℤ → ℕ → Row → Field → List ℕ → List ℕ
field_back t v r (holds x) s = written_of t v r x s
field_back t v r illegal s = s

abbrev pub back_of : List ℤ → ℕ → Row → List ℕ → List ℕ
back_of t v r s = field_back t v r (reading_of t v r s) s

-- the first n of v rows, one after the other
unfoldable pub settled_row : List ℤ → ℕ → ℕ → List ℕ → List ℕ
settled_row t v zero s = s
settled_row t v (suc n) s = back_of t v (row_at t n) (settled_row t v n s)

-- THE NORMAL FORM
abbrev pub normal_form : List ℤ → List ℕ → List ℕ
normal_form t s = settled_row t (rows_of t) (rows_of t) s

-- what is answered
unfoldable pub normal_verdict : List ℤ → List ℕ → Verdict
normal_verdict t s = cond (well_formed t) (cond (shares_none t (rows_of t)) (verdict_of t s) (refused 90)) (refused 20)

-- the record afterwards: a refusal keeps it
unfoldable pub normal_after : List ℤ → List ℕ → List ℕ
normal_after t s = cond (is_sound (normal_verdict t s)) (normal_form t s) s

-- the verdict of each case of the answer
unfoldable pub normal_said : Normal → Verdict
normal_said Shared = refused 90
normal_said (As j) = judged_as j

-- THE PROMISE of the call
pub record Normalised (t : List ℤ) (old new : List ℕ) (v : Verdict) : Type 0 where
  pub says : v ≡ normal_verdict t old
  pub leaves : new ≡ normal_after t old
