-- A RECORD THAT A LINE BUILDS is sound and has L bytes, none below 32; and the file of such records is sound, cut into just these.
-- Assumes nothing.
use Rattle.std.specs.Prelude.{◌≡◌, Bool, ℕ, zero, suc, ◌+◌, ◌≤◌, ◌<◌, min, ℤ, length, get_or, set}
use Rattle.std.proofs.Math.Path.{refl, ap}
use Rattle.std.proofs.Common.{◌∙◌, ⊎_elim, arith}
use Rattle.std.proofs.Math.Bool.{true, false, cond}
use mathlib.Core.List.{List, [], ◌∷◌, ◌++◌, append-nil, append_assoc}
use borrow.Author.Tests.{ne_eqb, eqb-true}
use Rattle.std.proofs.Math.Dec.{eqb}
use Rattle.below.specs.Below.{lt_or_le}
use Rattle.places.specs.rule.Places.{put}
use Rattle.cuts.specs.rule.Cut.{two_bytes, begins_with, terminator_at, terminator_of, whole_at, begins_at}
use Rattle.cuts.specs.rule.Records.{over, record_and, at_end, cut, records_of, length_of_first}
use Rattle.layout.specs.rule.Row.{row_at}
use Rattle.fields.specs.rule.Field.{Value, Field, holds, illegal, spaces}
use Rattle.fields.specs.rule.Row.{places_of, written_of}
use Rattle.sets.specs.rule.Sets.{is_illegal}
use Rattle.sound.specs.rule.Rows.{rows_of, length_of}
use Rattle.sound.specs.Rows.{row_facts}
use Rattle.records.specs.rule.Value.{reading_at}
use Rattle.records.specs.rule.Verdict.{verdict_of, sound}
use Rattle.read_laws.specs.Refused.{passes_sound}
use Rattle.normal_laws.specs.PlainBytes.{High, none, more, high_bytes}
use Rattle.files.specs.rule.File.{sound_with, file_verdict}
use Rattle.file_laws.specs.rule.Files.{records_before, AllSound, none_yet, one_more, all_sound}
use Rattle.file_laws.specs.Files.{file_only}
use Rattle.field_values.specs.rule.Read.{value_from}
use Rattle.field_values.specs.Exactly.{value_exactly}
use Rattle.import_rule.specs.rule.Line.{builds, faulty, on_field, record_from, line_says}
use Rattle.import_rule.specs.rule.Text.{file_bytes}
use Rattle.import_laws.specs.rule.Trip.{Table}
use Rattle.import_laws.specs.Again.{AllRead, Again, line_again}
use Rattle.import_laws.specs.Again as again

-- ---- no byte below 32
high_spaces : (n : ℕ) → High (spaces n)
unfolding spaces
high_spaces zero = none
high_spaces (suc n) = more 32 (omega arith) (high_spaces n)

high_set : {s : List ℕ} (p b : ℕ) → 32 ≤ b → High s → High (set s p b)
high_set p b h none = none
high_set zero b h (more c k g) = more b h g
high_set (suc p) b h (more c k g) = more c k (high_set p b h g)

high_put : {s bs : List ℕ} (ps : List ℕ) → High s → High bs → High (put s ps bs)
high_put [] g h = g
high_put (p ∷ ps) g none = g
high_put (p ∷ ps) g (more b k h) = high_put ps (high_set p b k g) h

high_get : {s : List ℕ} → High s → (p : ℕ) → p < length s → 32 ≤ get_or s p 0
high_get none p h = absurd (omega arith)
high_get (more c k g) zero h = k
high_get (more c k g) (suc p) h = high_get g p (omega arith)

no_builds : {A : Type 0} {k c : ℕ} {s : List ℕ} → faulty k c ≡ builds s → A
no_builds e = let z : ◌≡◌ {A = ℕ} 0 1 = cc in absurd (omega arith)

same_builds : {a b : List ℕ} → builds a ≡ builds b → a ≡ b
same_builds e = cc

module _ {t : List ℤ} (g : Table t) where
  high_written : (i : ℕ) → i < rows_of t → (f : List ℕ) (x : Value) → value_from t (rows_of t) (row_at t i) f ≡ holds x → {s : List ℕ}
      → High s
      → High (written_of t (rows_of t) (row_at t i) x s)
  unfolding written_of
  high_written i h f x e k =
      let v = (value_exactly (row_facts t g.formed i h) f x).0 e in
      high_put (places_of t (rows_of t) (row_at t i)) k (high_bytes (row_at t i).kind t (rows_of t) (row_at t i) x v.accepted)

  high_from : (fs : List (List ℕ)) (i : ℕ) (s u : List ℕ) → i + length fs ≤ rows_of t → High s → record_from t (rows_of t) i fs s ≡ builds u
      → High u
  unfolding record_from on_field
  high_from [] i s u h k e = rw (← same_builds e) k
  high_from (f ∷ fs) i s u h k e =
      go (value_from t (rows_of t) (row_at t i) f) refl e
      (λ x q w. high_from fs (i + 1) (written_of t (rows_of t) (row_at t i) x s) u (omega arith) (high_written i (omega arith) f x q k) w)
    where
      go : (y : Field) → value_from t (rows_of t) (row_at t i) f ≡ y
          → on_field y (λ x. record_from t (rows_of t) (i + 1) fs (written_of t (rows_of t) (row_at t i) x s)) (i + 1) ≡ builds u
          → ((x : Value) → value_from t (rows_of t) (row_at t i) f ≡ holds x
          → record_from t (rows_of t) (i + 1) fs (written_of t (rows_of t) (row_at t i) x s) ≡ builds u → High u) → High u
      go (holds x) q w rec = rec x q w
      go illegal q w rec = no_builds w

  high_line : (fs : List (List ℕ)) (u : List ℕ) → line_says t fs ≡ builds u → High u
  unfolding line_says
  high_line fs u e = go (eqb (length fs) (rows_of t)) refl e
    where
      go : (b : Bool) → eqb (length fs) (rows_of t) ≡ b
          → cond b (record_from t (rows_of t) 0 fs (spaces (length_of t))) (faulty 63 (min (length fs) (rows_of t) + 1)) ≡ builds u → High u
      go true q w = high_from fs 0 (spaces (length_of t)) u (omega (arith, eqb-true (length fs) (rows_of t) q)) (high_spaces (length_of t))
          w
      go false q w = no_builds w

  -- ---- its rows are legal
  held_legal : (x : Field) {y : Value} → x ≡ holds y → is_illegal x ≡ false
  unfolding is_illegal
  held_legal x e = rw e

  all_legal : {s : List ℕ} {i : ℕ} {fs : List (List ℕ)} → AllRead t s i fs → (j : ℕ) → i ≤ j → j < i + length fs
      → is_illegal (reading_at t j s) ≡ false
  all_legal again.AllRead.none_more j h l = absurd (omega arith)
  all_legal {s} {i} (again.AllRead.one_more x e k r) j h l =
      ⊎_elim (λ m. all_legal r j (omega arith) (omega arith)) (λ m. let q : j ≡ i = omega arith in rw q (held_legal (reading_at t i s) e))
      (lt_or_le i j)

  pub record SoundLine (s : List ℕ) : Type 0 where
    pub size : length s ≡ length_of t
    pub judged : verdict_of t s ≡ sound
    pub high : High s

  -- A RECORD THAT A LINE BUILDS is sound
  pub line_sound : (fs : List (List ℕ)) (s : List ℕ) → line_says t fs ≡ builds s → SoundLine s
  line_sound fs s e =
      let a = line_again g fs s e in
      let h = high_line fs s e in
      record {
        size = a.size;
        judged = passes_sound t g.formed s
            (record {
              long = omega (arith, a.size);
              plain = high_get h;
              legal_rows = λ i l. all_legal a.reads i (omega arith)
                  (omega (arith, a.many));
            });
        high = h;
      }

  -- all of these records are
  pub data AllLines : List (List ℕ) → Type 0 where
    no_more : AllLines []
    and_more : {r : List ℕ} {rs : List (List ℕ)} → SoundLine r → AllLines rs → AllLines (r ∷ rs)

  all_judged : {rs : List (List ℕ)} → AllLines rs → AllSound t (length_of t) rs
  all_judged no_more = none_yet
  all_judged (and_more a r) = one_more a.size a.judged (all_judged r)

-- ---- the file of records that hold no byte below 32
high_not : (b c : ℕ) → 32 ≤ b → c < 32 → eqb b c ≡ false
high_not b c h l = ne_eqb b c (λ e. omega arith)

ends_found : {r : List ℕ} → High r → (u : List ℕ) → terminator_of (r ++ (13 ∷ 10 ∷ u)) ≡ two_bytes 13 10
unfolding terminator_of terminator_at begins_with
ends_found none u = refl
ends_found (more b h g) u = rw (high_not b 13 h (omega arith), high_not b 10 h (omega arith)) (ends_found g u)

cut_one : {r : List ℕ} → High r → (a u : List ℕ) → cut (two_bytes 13 10) 0 a (r ++ (13 ∷ 10 ∷ u))
    ≡ record_and (a ++ r) (cut (two_bytes 13 10) 0 [] u)
unfolding cut begins_at whole_at begins_with
cut_one none a u = rw (append-nil a)
cut_one (more b {s = s} h g) a u =
    rw (high_not b 13 h (omega arith)) (cut_one g (a ++ (b ∷ [])) u
    ∙ ap (λ (x : List ℕ). record_and x (cut (two_bytes 13 10) 0 [] u)) (append_assoc a (b ∷ []) s))

module _ {t : List ℤ} (g : Table t) where
  cut_all : {rs : List (List ℕ)} → AllLines g rs → cut (two_bytes 13 10) 0 [] (file_bytes rs) ≡ records_before rs over
  unfolding file_bytes records_before cut at_end
  cut_all no_more = refl
  cut_all (and_more {r = r} {rs = rs} a k) = cut_one a.high [] (file_bytes rs) ∙ ap (record_and r) (cut_all k)

  pub file_cut : {rs : List (List ℕ)} → AllLines g rs → records_of (file_bytes rs) ≡ records_before rs over
  unfolding records_of file_bytes records_before cut at_end
  file_cut no_more = refl
  file_cut (and_more {r = r} {rs = rs} a k) =
      rw (ends_found a.high (file_bytes rs)) (cut_one a.high [] (file_bytes rs) ∙ ap (record_and r) (cut_all k))

  first_is : {rs : List (List ℕ)} → AllLines g rs → AllSound t (length_of_first (records_of (file_bytes rs))) rs
  unfolding length_of_first records_before
  first_is no_more = none_yet
  first_is (and_more a k) = rw (file_cut (and_more a k), a.size) (all_judged g (and_more a k))

  -- THE FILE IS SOUND
  pub file_sound : {rs : List (List ℕ)} → AllLines g rs → file_verdict t (file_bytes rs) ≡ sound_with (length rs)
  file_sound {rs} k = file_only (all_sound rs (record { formed = g.formed; records = file_cut k; all = first_is k }))
