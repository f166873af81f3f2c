-- What follows from rule/Files.antt, and what the code keeps.
use Rattle.std.specs.Prelude.{◌≡◌, Bool, true, false, cond, List, [], ◌∷◌, ◌++◌, eqb, ℤ}
use Rattle.std.proofs.Math.Path.{refl}
use Rattle.std.proofs.Common.{sym, ap, ◌∙◌, eq-eqb, ne_eqb, eqb-true, length-append}
use Prim.Native.Nat.{ℕ, ◌+◌}
use native.Mathlib.Omega.{arith}
use Rattle.std.proofs.lemmas.Bool.{eqb-false}
use Rattle.std.proofs.Math.ListN.{length}
use Rattle.below.specs.Below.{holds_not}
use Rattle.cuts.specs.rule.Records.{Records, over, unended, record_and, records_of, count_ended, length_of_first}
use Rattle.sound.specs.rule.Sound.{well_formed}
use Rattle.records.specs.rule.Verdict.{Verdict, sound, refused, low_byte, bad_field, verdict_of}
use Rattle.files.specs.rule.File.{FileVerdict, sound_with, bad_table, fault_in, record_verdict, go_on, first_length, records_verdict}
use Rattle.files.specs.rule.File.{file_verdict, is_sound}
use Rattle.files.specs.File.{go_fault, verdict_other}
use Rattle.file_laws.specs.rule.Files.{records_before, AllSound, none_yet, one_more, SoundBefore, FileOutcome, not_formed}
use Rattle.file_laws.specs.rule.Files.{all_sound, not_ended, other_length, record_fault}

-- ---- one record, of the first one's length, is judged as the public record call judges it
pub record_as_judged : (t : List ℤ) (first : ℕ) (r : List ℕ) → well_formed t ≡ true → length r ≡ first
    → record_verdict t first r ≡ verdict_of t r
unfolding record_verdict verdict_of
record_as_judged t first r g e = rw (eq-eqb (length r) first e, g)

pub not_sound : (v : Verdict) → (v ≡ sound → ⊥) → is_sound v ≡ false
unfolding is_sound
not_sound sound h = absurd (h refl)
not_sound (refused k) h = refl
not_sound (low_byte p) h = refl
not_sound (bad_field i x) h = refl

pub is_sound_lem : (v : Verdict) → is_sound v ≡ true → v ≡ sound
unfolding is_sound
is_sound_lem sound e = refl
is_sound_lem (refused k) e = holds_not e refl
is_sound_lem (low_byte p) e = holds_not e refl
is_sound_lem (bad_field i x) e = holds_not e refl

pub sound_not : (v : Verdict) → is_sound v ≡ false → v ≡ sound → ⊥
unfolding is_sound
sound_not v e q = holds_not refl (rw q at e)

-- once the first record is past its length is known
known_on : (n first size : ℕ) → first_length (n + 1) first size ≡ first
unfolding first_length
known_on n first size = rw (ne_eqb (n + 1) 0 (λ e. omega arith))

module _ (t : List ℤ) (good : well_formed t ≡ true) (first : ℕ) where
  -- the verdict on the next record, in a file whose first record has `first` bytes
  next_sound : (n f : ℕ) (r : List ℕ) (rest : Records) → first_length n f (length r) ≡ first → length r ≡ first → verdict_of t r ≡ sound
      → records_verdict t n f (record_and r rest) ≡ records_verdict t (n + 1) first rest
  unfolding records_verdict go_on
  next_sound n f r rest k e s = rw (k, record_as_judged t first r good e, s)

  next_other : (n f : ℕ) (r : List ℕ) (rest : Records) → first_length n f (length r) ≡ first → (length r ≡ first → ⊥)
      → records_verdict t n f (record_and r rest) ≡ fault_in (n + 1) (refused 31)
  unfolding records_verdict go_on
  next_other n f r rest k e = rw (k, verdict_other t first r e)

  next_fault : (n f : ℕ) (r : List ℕ) (rest : Records) → first_length n f (length r) ≡ first → length r ≡ first
      → (verdict_of t r ≡ sound → ⊥) → records_verdict t n f (record_and r rest) ≡ fault_in (n + 1) (verdict_of t r)
  unfolding records_verdict
  next_fault n f r rest k e s =
      rw (k, record_as_judged t first r good e)
      (go_fault (verdict_of t r) n (records_verdict t (n + 1) first rest) (not_sound (verdict_of t r) s))

  -- what is left behind sound records
  record Left (n f : ℕ) (rs : List (List ℕ)) (rest : Records) : Type 0 where
    pub length_known : ℕ
    pub same : records_verdict t n f (records_before rs rest) ≡ records_verdict t (n + length rs) length_known rest
    pub still : first_length (n + length rs) length_known (length_of_first rest) ≡ first

  left : {rs : List (List ℕ)} → AllSound t first rs → (n f : ℕ) (rest : Records)
      → first_length n f (length_of_first (records_before rs rest))
      ≡ first
      → Left n f rs rest
  unfolding records_before length_of_first
  left none_yet n f rest k = let z : n + 0 ≡ n = omega arith in record { length_known = f; same = rw z; still = rw z k }
  left (one_more {r} {rs} e s a) n f rest k =
      let i = left a (n + 1) first rest (known_on n first (length_of_first (records_before rs rest))) in
      let z : n + length (r ∷ rs) ≡ n + 1 + length rs = omega arith in
      record {
        length_known = i.length_known;
        same = next_sound n f r (records_before rs rest) k e s ∙ rw z i.same;
        still = rw z i.still;
      }

-- ---- WHAT IS SO HAS ITS VERDICT
module _ {t : List ℤ} {d : List ℕ} {rs : List (List ℕ)} {rest : Records} (s : SoundBefore t d rs rest) where
  behind : Left t s.formed (length_of_first (records_of d)) 0 0 rs rest
  unfolding first_length
  behind = left t s.formed (length_of_first (records_of d)) s.all 0 0 rest (ap length_of_first (sym s.records))

  file_is : file_verdict t d ≡ records_verdict t (0 + length rs) behind.length_known rest
  unfolding file_verdict
  file_is = rw s.formed (ap (records_verdict t 0 0) s.records ∙ behind.same)

zero_plus : (n : ℕ) → 0 + n ≡ n
zero_plus n = omega arith

pub file_only : {t : List ℤ} {d : List ℕ} {v : FileVerdict} → FileOutcome t d v → file_verdict t d ≡ v
unfolding file_verdict records_verdict length_of_first
file_only (not_formed e) = rw e
file_only (all_sound rs s) = rw (zero_plus (length rs)) at (file_is s)
file_only (not_ended rs r s) = rw (zero_plus (length rs)) at (file_is s)
file_only {t} {d} (other_length rs r rest s n) =
    let b = behind s in
    let q = next_other t s.formed (length_of_first (records_of d)) (0 + length rs) b.length_known r rest b.still n in
    rw (zero_plus (length rs)) at (file_is s ∙ q)
file_only {t} {d} (record_fault rs r rest s e n) =
    let b = behind s in
    let q = next_fault t s.formed (length_of_first (records_of d)) (0 + length rs) b.length_known r rest b.still e n in
    rw (zero_plus (length rs)) at (file_is s ∙ q)

-- ---- AND THE VERDICT NAMES WHAT IS SO
pub before_more : (rs : List (List ℕ)) (r : List ℕ) (rest : Records) → records_before (rs ++ r ∷ []) rest
    ≡ records_before rs (record_and r rest)
unfolding records_before
before_more [] r rest = refl
before_more (x ∷ rs) r rest = ap (record_and x) (before_more rs r rest)

pub sound_more : {t : List ℤ} {first : ℕ} {rs : List (List ℕ)} (r : List ℕ) → AllSound t first rs → length r ≡ first → verdict_of t r
    ≡ sound
    → AllSound t first (rs ++ r ∷ [])
sound_more r none_yet e s = one_more e s none_yet
sound_more r (one_more f q a) e s = one_more f q (sound_more r a e s)

module _ (t : List ℤ) (d : List ℕ) (good : well_formed t ≡ true) where
  named_from : (rest : Records) (rs : List (List ℕ)) (f : ℕ) → SoundBefore t d rs rest
      → first_length (length rs) f (length_of_first rest) ≡ length_of_first (records_of d)
      → FileOutcome t d (records_verdict t (length rs) f rest)
  unfolding records_verdict length_of_first
  named_from over rs f s k = all_sound rs s
  named_from (unended r) rs f s k = not_ended rs r s
  named_from (record_and r rest) rs f s k = go (eqb (length r) first) refl (is_sound (verdict_of t r)) refl
      (λ g i. named_from rest (rs ++ r ∷ []) first g i)
    where
      first : ℕ
      first = length_of_first (records_of d)

      more : length r ≡ first → verdict_of t r ≡ sound → SoundBefore t d (rs ++ r ∷ []) rest
      more e v = record {
        formed = s.formed;
        records = s.records ∙ sym (before_more rs r rest);
        all = sound_more r s.all e v;
      }

      long : length (rs ++ r ∷ []) ≡ length rs + 1
      long = length-append rs (r ∷ [])

      go : (p : Bool) → eqb (length r) first ≡ p → (q : Bool) → is_sound (verdict_of t r) ≡ q
          → (SoundBefore t d (rs ++ r ∷ []) rest → first_length (length (rs ++ r ∷ [])) first (length_of_first rest) ≡ first
          → FileOutcome t d (records_verdict t (length (rs ++ r ∷ [])) first rest))
          → FileOutcome t d (records_verdict t (length rs) f (record_and r rest))
      go false e q v ih =
          let n = eqb-false (length r) first e in
          rw (next_other t good first (length rs) f r rest k n) (other_length rs r rest s n)
      go true e false v ih =
          let l = eqb-true (length r) first e in
          let n = sound_not (verdict_of t r) v in
          rw (next_fault t good first (length rs) f r rest k l n) (record_fault rs r rest s l n)
      go true e true v ih =
          let l = eqb-true (length r) first e in
          let y = is_sound_lem (verdict_of t r) v in
          let z = ih (more l y) (rw long (known_on (length rs) first (length_of_first rest))) in
          rw (next_sound t good first (length rs) f r rest k l y) (rw long at z)

pub file_named : (t : List ℤ) (d : List ℕ) → FileOutcome t d (file_verdict t d)
unfolding file_verdict records_before first_length
file_named t d = go (well_formed t) refl
  where
    start : well_formed t ≡ true → SoundBefore t d [] (records_of d)
    start g = record { formed = g; records = refl; all = none_yet }

    go : (b : Bool) → well_formed t ≡ b → FileOutcome t d (cond b (records_verdict t 0 0 (records_of d)) bad_table)
    go true g = named_from t d g (records_of d) [] 0 (start g) refl
    go false g = not_formed g

-- ---- THE COUNT of a sound file is the number of terminators passed
count_before : (rs : List (List ℕ)) → count_ended (records_before rs over) ≡ length rs
unfolding count_ended records_before
count_before [] = refl
count_before (r ∷ rs) = rw (count_before rs) (omega arith)

pub count_passed : (t : List ℤ) (d : List ℕ) (n : ℕ) → file_verdict t d ≡ sound_with n → n ≡ count_ended (records_of d)
count_passed t d n e = go (file_named t d) e
  where
    go : {v : FileVerdict} → FileOutcome t d v → v ≡ sound_with n → n ≡ count_ended (records_of d)
    go (not_formed g) q = let z : ◌≡◌ {A = ℕ} 0 1 = cc in absurd (omega arith)
    go (all_sound rs s) q = let m : length rs ≡ n = cc in sym m ∙ sym (ap count_ended s.records ∙ count_before rs)
    go (not_ended rs r s) q = let z : ◌≡◌ {A = ℕ} 0 1 = cc in absurd (omega arith)
    go (other_length rs r rest s k) q = let z : ◌≡◌ {A = ℕ} 0 1 = cc in absurd (omega arith)
    go (record_fault rs r rest s k m) q = let z : ◌≡◌ {A = ℕ} 0 1 = cc in absurd (omega arith)
