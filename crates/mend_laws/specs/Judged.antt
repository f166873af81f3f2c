-- A FILE WHOSE LINE ENDS, LENGTHS AND BYTES ARE SOUND is judged with no 30, 31, 22, 23; so is every mended file.
use Rattle.std.specs.Prelude.{◌≡◌, refl, Bool, true, false, cond, List, [], ◌∷◌, ℕ, zero, suc, ◌+◌, ◌≤◌, ◌<◌, ◌↔◌, ◌⊎◌, eqb, leb, ℤ}
use Rattle.std.specs.Prelude.{length, Option, Some, None}
use Rattle.std.proofs.Common.{sym, ap, ◌∙◌, arith, inl, inr, ⊎_elim, eq-eqb, ne_eqb, le-leb, le-ltb, eqb-true, leb-true, ltb-false}
use Rattle.std.proofs.lemmas.Bool.{eqb-false}
use Rattle.below.specs.Below.{holds_not}
use Rattle.lows.specs.rule.Lows.{low_at}
use Rattle.cuts.specs.rule.Records.{Records, record_and, records_of, length_of_first}
use Rattle.sound.specs.rule.Sound.{well_formed}
use Rattle.sound.specs.rule.Rows.{length_of, rows_of}
use Rattle.faults.specs.declared.Fault.{Fault}
use Rattle.records.specs.rule.First.{first_from, bad_row, row_fault}
use Rattle.records.specs.rule.Verdict.{Verdict, sound, refused, bad_field, row_verdict, byte_verdict, rows_verdict}
use Rattle.files.specs.rule.File.{FileVerdict, bad_table, record_verdict, go_on, first_length, records_verdict, file_verdict}
use Rattle.mends.specs.rule.Mend.{bytes_in}
use Rattle.mend_laws.specs.rule.Mended.{NoneLow, nothing, plain, Shaped, all_ended, ended, SoundLines, none_of_three, NoneOfFour}
use Rattle.mend_laws.specs.rule.Mended.{no_more_records, judged_by_fields, ByFields, sound_with_lem, by_no_table, in_a_field}
use Rattle.mend_laws.specs.Sound.{mended_sound}

plain_at : {r : List ℕ} → NoneLow r → (j : ℕ) → j < length r → low_at r j ≡ false
plain_at nothing j h = absurd (omega arith)
plain_at (plain {b} {r} m p) zero h = le-ltb b 32 m
plain_at (plain m p) (suc j) h = plain_at p j (omega arith)

none_found : (f : ℕ → Bool) (n i : ℕ) → ((j : ℕ) → i ≤ j → j < i + n → f j ≡ false) → first_from f i n ≡ None
unfolding first_from
none_found f zero i h = refl
none_found f (suc n) i h = rw (h i (omega arith) (omega arith)) (none_found f n (suc i) (λ j a b. h j (omega arith) (omega arith)))

-- sound, or a field's fault
data Fielded : Verdict → Type 0 where
  is_sound_lem : Fielded sound
  is_field : {i : ℕ} {x : Fault} → Fielded (bad_field i x)

by_rows : (fault : ℕ → Fault) (x : Option ℕ) → Fielded (row_verdict fault x)
unfolding row_verdict
by_rows fault (Some i) = is_field
by_rows fault None = is_sound_lem

fielded : (t : List ℤ) (n : ℕ) {r : List ℕ} → length r ≡ n → length_of t ≤ n → NoneLow r → Fielded (record_verdict t n r)
unfolding record_verdict rows_verdict byte_verdict
fielded t n {r} l h p =
    rw (
      eq-eqb (length r) n l,
      le-leb (length_of t) (length r) (omega arith),
      none_found (low_at r) (length r) 0 (λ j a b. plain_at p j (omega arith)),
    )
    (by_rows (row_fault t (rows_of t) r) (first_from (bad_row t (rows_of t) r) 0 (rows_of t)))

go_fielded : {v : Verdict} → Fielded v → (n : ℕ) {rest : FileVerdict} → ByFields rest → ByFields (go_on v n rest)
unfolding go_on
go_fielded is_sound_lem n b = b
go_fielded is_field n b = in_a_field

-- the first length is n from the first record on
at_first : (n len : ℕ) → len ≡ n → first_length 0 0 len ≡ n
unfolding first_length
at_first n len e = e

known_after : (k n len : ℕ) → len ≡ n → first_length (k + 1) n len ≡ n
unfolding first_length
known_after k n len e = rw (ne_eqb (k + 1) 0 (λ z. omega arith))

shaped_fields : (t : List ℤ) {n : ℕ} {rs : Records} → Shaped (length_of t) n rs → (k first : ℕ)
    → ((len : ℕ) → len ≡ n → first_length k first len ≡ n) → ByFields (records_verdict t k first rs)
unfolding records_verdict
shaped_fields t all_ended k first f = sound_with_lem
shaped_fields t {n} (ended {r} {rs} l h p s) k first f =
    rw (f (length r) l) (go_fielded (fielded t n l h p) k (shaped_fields t s (k + 1) n (known_after k n)))

pub sound_judged : (t : List ℤ) (d : List ℕ) → SoundLines t d → ByFields (file_verdict t d)
unfolding file_verdict
sound_judged t d s = go (well_formed t)
  where
    go : (q : Bool) → ByFields (cond q (records_verdict t 0 0 (records_of d)) bad_table)
    go true = shaped_fields t s.shaped 0 0 (at_first (length_of_first (records_of d)))
    go false = by_no_table

-- THE MENDED FILE IS JUDGED WITH NO 30, 31, 22, 23
pub mended_judged : (t : List ℤ) (d : List ℕ) → well_formed t ≡ true → ByFields (file_verdict t (bytes_in t d))
mended_judged t d g = sound_judged t (bytes_in t d) (mended_sound t d g)

-- ---- SOUND IS NO 30, 31, 22, 23 of any record, by the judge's own verdict on each, and the other way round
fielded_none : {v : Verdict} → Fielded v → none_of_three v ≡ true
unfolding none_of_three
fielded_none is_sound_lem = refl
fielded_none is_field = refl

shaped_none : (t : List ℤ) {n : ℕ} {rs : Records} → Shaped (length_of t) n rs → NoneOfFour t n rs
shaped_none t all_ended = no_more_records
shaped_none t {n} (ended {r} {rs} l h p s) = judged_by_fields (fielded_none (fielded t n l h p)) (shaped_none t s)

-- where none is found the test fails at each
is_at : Option ℕ → Bool
is_at (Some i) = true
is_at None = false

from_on : (i j : ℕ) → i ≤ j → (i ≡ j) ⊎ (suc i ≤ j)
from_on i j h = go (eqb i j) refl
  where
    go : (q : Bool) → eqb i j ≡ q → (i ≡ j) ⊎ (suc i ≤ j)
    go true e = inl (eqb-true i j e)
    go false e = let n = eqb-false i j e in inr (omega arith)

none_at : (f : ℕ → Bool) (n i : ℕ) → first_from f i n ≡ None → (j : ℕ) → i ≤ j → j < i + n → f j ≡ false
unfolding first_from is_at
none_at f zero i e j a b = absurd (omega arith)
none_at f (suc n) i e j a b = go (f i) refl e (λ z g. none_at f n (suc i) z j g (omega arith))
  where
    go : (q : Bool) → f i ≡ q → cond q (Some i) (first_from f (suc i) n) ≡ None
        → (first_from f (suc i) n ≡ None → suc i ≤ j → f j ≡ false)
        → f j ≡ false
    go true h z rest = holds_not {b = true} refl (ap is_at z)
    go false h z rest = ⊎_elim (λ g. ap f (sym g) ∙ h) (rest z) (from_on i j a)

plain_of : (r : List ℕ) → ((j : ℕ) → j < length r → low_at r j ≡ false) → NoneLow r
plain_of [] f = nothing
plain_of (b ∷ r) f = plain (ltb-false b 32 (f 0 (omega arith))) (plain_of r (λ j h. f (suc j) (omega arith)))

bytes_plain : (r : List ℕ) (x : Option ℕ) (v : Verdict) → first_from (low_at r) 0 (length r) ≡ x → none_of_three (byte_verdict x v) ≡ true
    → NoneLow r
unfolding byte_verdict none_of_three
bytes_plain r (Some p) v e h = holds_not h refl
bytes_plain r None v e h = plain_of r (λ j l. none_at (low_at r) (length r) 0 e j (omega arith) (omega arith))

rows_plain : (t : List ℤ) (v : ℕ) (r : List ℕ) → none_of_three (rows_verdict t v r) ≡ true → NoneLow r
unfolding rows_verdict
rows_plain t v r h =
    bytes_plain r (first_from (low_at r) 0 (length r)) (row_verdict (row_fault t v r) (first_from (bad_row t v r) 0 v)) refl h

none_shaped : (t : List ℤ) {n : ℕ} {rs : Records} → NoneOfFour t n rs → Shaped (length_of t) n rs
unfolding record_verdict none_of_three
none_shaped t no_more_records = all_ended
none_shaped t {n} (judged_by_fields {r} {rs} f s) =
    go (eqb (length r) n) refl (leb (length_of t) (length r)) refl f (none_shaped t s)
  where
    go : (p : Bool) → eqb (length r) n ≡ p → (q : Bool) → leb (length_of t) (length r) ≡ q
        → none_of_three (cond p (cond q (rows_verdict t (rows_of t) r) (refused 22)) (refused 31)) ≡ true → Shaped (length_of t) n rs
        → Shaped (length_of t) n (record_and r rs)
    go true e true l f s =
        let h = eqb-true (length r) n e in
        ended h (omega (arith, h, leb-true (length_of t) (length r) l)) (rows_plain t (rows_of t) r f) s
    go true e false l f s = holds_not f refl
    go false e q l f s = holds_not f refl

pub sound_exactly : (t : List ℤ) (d : List ℕ) → SoundLines t d ↔ NoneOfFour t (length_of_first (records_of d)) (records_of d)
sound_exactly t d = (λ s. shaped_none t s.shaped, λ n. record { shaped = none_shaped t n })
