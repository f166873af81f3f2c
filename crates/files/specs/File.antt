-- What follows from rule/File.antt, and what the code keeps.
use Rattle.std.specs.Prelude.{◌≡◌, refl, Bool, true, false, List, ℕ, ◌+◌, ◌≤◌, ◌<◌, ℤ, length}
use Rattle.std.proofs.Common.{sym, ap, ◌∙◌}
use borrow.Author.Tests.{eq-eqb, ne_eqb, le-leb, lt-leb}
use Rattle.below.specs.Below.{holds_not}
use Rattle.cuts.specs.declared.Terminator.{Terminator}
use Rattle.cuts.specs.rule.Cut.{Found}
use Rattle.cuts.specs.rule.Records.{Records, over, unended, record_and, records_from, records_of}
use Rattle.sound.specs.rule.Sound.{well_formed}
use Rattle.sound.specs.rule.Rows.{rows_of, length_of}
use Rattle.records.specs.rule.Verdict.{Verdict, sound, refused, low_byte, bad_field, rows_verdict}
use Rattle.files.specs.rule.File.{FileVerdict, sound_with, bad_table, fault_in, record_verdict, go_on, first_length, records_verdict}
use Rattle.files.specs.rule.File.{is_sound, file_verdict}

-- whether a file is sound as far as it was judged
unfoldable pub sound_so_far : FileVerdict → Bool
sound_so_far (sound_with n) = true
sound_so_far bad_table = false
sound_so_far (fault_in n v) = false

-- ---- laws
pub go_sound : (v : Verdict) (n : ℕ) (rest : FileVerdict) → is_sound v ≡ true → go_on v n rest ≡ rest
unfolding is_sound go_on
go_sound sound n rest e = refl
go_sound (refused k) n rest e = holds_not e refl
go_sound (low_byte p) n rest e = holds_not e refl
go_sound (bad_field i x) n rest e = holds_not e refl

pub go_fault : (v : Verdict) (n : ℕ) (rest : FileVerdict) → is_sound v ≡ false → go_on v n rest ≡ fault_in (n + 1) v
unfolding is_sound go_on
go_fault sound n rest e = holds_not refl e
go_fault (refused k) n rest e = refl
go_fault (low_byte p) n rest e = refl
go_fault (bad_field i x) n rest e = refl

-- a file ends at a record whose fault is known
pub go_known : (v v' : Verdict) (n : ℕ) (rest : FileVerdict) → v ≡ v' → is_sound v' ≡ false → go_on v n rest ≡ fault_in (n + 1) v'
go_known v v' n rest e h = go_fault v n rest (ap is_sound e ∙ h) ∙ ap (fault_in (n + 1)) e

module _ (t : List ℤ) (first : ℕ) (r : List ℕ) where
  pub verdict_other : (length r ≡ first → ⊥) → record_verdict t first r ≡ refused 31
  unfolding record_verdict
  verdict_other n = rw (ne_eqb (length r) first n)

  pub verdict_short : length r ≡ first → length r < length_of t → record_verdict t first r ≡ refused 22
  unfolding record_verdict
  verdict_short e l = rw (eq-eqb (length r) first e, lt-leb (length_of t) (length r) l)

  pub verdict_rows : length r ≡ first → length_of t ≤ length r → record_verdict t first r ≡ rows_verdict t (rows_of t) r
  unfolding record_verdict
  verdict_rows e l = rw (eq-eqb (length r) first e, le-leb (length_of t) (length r) l)

-- ---- the records one by one
module _ (t : List ℤ) (n first : ℕ) (rs : Records) where
  pub records_over : rs ≡ over → records_verdict t n first rs ≡ sound_with n
  unfolding records_verdict
  records_over e = rw e

  pub records_unended : {r : List ℕ} → rs ≡ unended r → records_verdict t n first rs ≡ fault_in (n + 1) (refused 30)
  unfolding records_verdict
  records_unended e = rw e

  pub records_next : {r : List ℕ} {rest : Records} → rs ≡ record_and r rest → records_verdict t n first rs
      ≡ go_on (record_verdict t (first_length n first (length r)) r) n
      (records_verdict t (n + 1) (first_length n first (length r)) rest)
  unfolding records_verdict
  records_next e = rw e

-- a record's verdict, and the file's so far: where one goes on so does the other, and where one ends the file ends with it
pub so_far : (v : Verdict) (n : ℕ) → sound_so_far (go_on v n (sound_with (n + 1))) ≡ is_sound v
unfolding sound_so_far go_on is_sound
so_far sound n = refl
so_far (refused k) n = refl
so_far (low_byte p) n = refl
so_far (bad_field i x) n = refl

pub go_same : (v : Verdict) (n : ℕ) (a b : FileVerdict) → is_sound v ≡ false → go_on v n a ≡ go_on v n b
go_same v n a b e = go_fault v n a e ∙ sym (go_fault v n b e)

-- by a table that was tested and the terminator that was found, the file's verdict is that on its records
pub file_found : (t : List ℤ) {d : List ℕ} {w : Terminator} → well_formed t ≡ true → Found d w
    → records_verdict t 0 0 (records_from w d) ≡ file_verdict t d
unfolding file_verdict records_of
file_found t g f = rw (g, f.is)
