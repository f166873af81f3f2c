-- The records of a sound file: each is long enough, and they are as many as its verdict says.
-- Assumes nothing.
use Rattle.std.specs.Prelude.{◌≡◌, refl, Bool, true, false, cond, List, [], ◌∷◌, ℕ, ◌+◌, ◌*◌, ◌≤◌, eqb, leb, ℤ, length}
use Rattle.std.proofs.Common.{suc-mul, arith, leb-true, length-append}
use Rattle.below.specs.Below.{holds_not}
use Rattle.cuts.specs.rule.Records.{Records, over, unended, record_and, records_of}
use Rattle.sound.specs.rule.Sound.{well_formed}
use Rattle.sound.specs.rule.Rows.{rows_of, length_of}
use Rattle.records.specs.rule.Verdict.{Verdict, sound, refused, low_byte, bad_field, rows_verdict}
use Rattle.files.specs.rule.File.{FileVerdict, sound_with, bad_table, fault_in, record_verdict, go_on, first_length, records_verdict}
use Rattle.files.specs.rule.File.{file_verdict}
use Rattle.files.specs.rule.File.{is_sound}
use Rattle.files.specs.File.{sound_so_far}
use Rattle.columns.specs.rule.Columns.{Column, entries_of}
use Rattle.columns.specs.Columns.{length_entries}
use Rattle.matrices.specs.rule.Matrix.{ended_of, matrix_entries}

-- every record has n bytes or more
unfoldable pub AllLong : ℕ → List (List ℕ) → Type 0
AllLong n [] = Unit {0}
AllLong n (r ∷ rs) = (n ≤ length r) × AllLong n rs

-- the count that a verdict comes with
unfoldable pub count_in : FileVerdict → ℕ
count_in (sound_with n) = n
count_in bad_table = 0
count_in (fault_in n v) = 0

-- ---- laws
record_long : (t : List ℤ) (first : ℕ) (r : List ℕ) → is_sound (record_verdict t first r) ≡ true → length_of t ≤ length r
unfolding record_verdict is_sound
record_long t first r e = go (eqb (length r) first) (leb (length_of t) (length r)) refl e
  where
    go : (p q : Bool) → leb (length_of t) (length r) ≡ q
        → is_sound (cond p (cond q (rows_verdict t (rows_of t) r) (refused 22)) (refused 31)) ≡ true → length_of t ≤ length r
    go true true b g = leb-true (length_of t) (length r) b
    go true false b g = holds_not g refl
    go false q b g = holds_not g refl

-- what goes on to a sound end was sound itself
pub went_on : (v : Verdict) (n m : ℕ) (rest : FileVerdict) → go_on v n rest ≡ sound_with m → (is_sound v ≡ true) × (rest ≡ sound_with m)
unfolding go_on is_sound
went_on sound n m rest e = (refl, e)
went_on (refused k) n m rest e = let z : ◌≡◌ {A = ℕ} 0 1 = cc in absurd (omega arith)
went_on (low_byte p) n m rest e = let z : ◌≡◌ {A = ℕ} 0 1 = cc in absurd (omega arith)
went_on (bad_field i x) n m rest e = let z : ◌≡◌ {A = ℕ} 0 1 = cc in absurd (omega arith)

records_sound : (t : List ℤ) (rs : Records) (n first m : ℕ) → records_verdict t n first rs ≡ sound_with m
    → AllLong (length_of t) (ended_of rs) × (m ≡ n + length (ended_of rs))
unfolding records_verdict AllLong ended_of
records_sound t over n first m e = let q : n ≡ m = cc in (tt, omega arith)
records_sound t (unended r) n first m e = let z : ◌≡◌ {A = ℕ} 0 1 = cc in absurd (omega arith)
records_sound t (record_and r rs) n first m e =
    let f = first_length n first (length r) in
    let w = went_on (record_verdict t f r) n m (records_verdict t (n + 1) f rs) e in
    let i = records_sound t rs (n + 1) f m w.1 in
    ((record_long t f r w.0, i.0), omega (arith, i.1))

pub file_sound : (t : List ℤ) (d : List ℕ) (m : ℕ) → file_verdict t d ≡ sound_with m
    → (well_formed t ≡ true) × AllLong (length_of t) (ended_of (records_of d)) × (m ≡ length (ended_of (records_of d)))
unfolding file_verdict
file_sound t d m = go (well_formed t) refl
  where
    go : (b : Bool) → well_formed t ≡ b → cond b (records_verdict t 0 0 (records_of d)) bad_table ≡ sound_with m
        → (well_formed t ≡ true) × AllLong (length_of t) (ended_of (records_of d)) × (m ≡ length (ended_of (records_of d)))
    go true w e = let s = records_sound t (records_of d) 0 0 m e in (w, s.0, omega (arith, s.1))
    go false w e = let z : ◌≡◌ {A = ℕ} 0 1 = cc in absurd (omega arith)

pub so_far_sound : (v : FileVerdict) → sound_so_far v ≡ true → v ≡ sound_with (count_in v)
unfolding sound_so_far count_in
so_far_sound (sound_with n) e = refl
so_far_sound bad_table e = holds_not e refl
so_far_sound (fault_in n v) e = holds_not e refl

pub length_all : (t : List ℤ) (v : ℕ) (cs : List Column) (rs : List (List ℕ)) → length (matrix_entries t v cs rs) ≡ length rs * length cs
unfolding matrix_entries
length_all t v cs [] = z (length cs)
  where
    z : (n : ℕ) → 0 ≡ 0 * n
    z n = omega arith
length_all t v cs (r ∷ rs) =
    omega (
      arith,
      length-append (entries_of t v r cs) (matrix_entries t v cs rs),
      length_entries t v r cs,
      length_all t v cs rs,
      suc-mul (length rs) (length cs),
    )
