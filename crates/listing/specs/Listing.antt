-- What follows from rule/Listing.antt, and what the code keeps.
use Rattle.std.specs.Prelude.{◌≡◌, refl, true, false, cond, List, [], ◌++◌, ℤ, length}
use Rattle.std.proofs.Common.{sym, ap, ◌∙◌, append_assoc, append-nil, add-zero, add-suc, suc-add, arith, le-leb}
use Prim.Native.Nat.{ℕ, zero, suc, ◌+◌, ◌-◌, ◌≤◌, ◌<◌}
use Rattle.std.proofs.lemmas.Bool.{lt-leb}
use Rattle.sound.specs.rule.Sound.{well_formed}
use Rattle.sound.specs.rule.Rows.{rows_of, length_of}
use Rattle.cuts.specs.rule.Records.{Records, over, unended, record_and, records_of}
use Rattle.records.specs.rule.Verdict.{refused}
use Rattle.files.specs.rule.File.{sound_with, bad_table, fault_in, record_verdict, go_on, first_length, is_sound}
use Rattle.listing.specs.rule.Listing.{row_text, rows_text, record_text, last_text, records_text, rest_text}

-- THE LISTING
unfoldable pub listing_of : List ℤ → List ℕ → List ℕ
listing_of t d = cond (well_formed t) (records_text t 0 0 (records_of d)) (last_text t bad_table)

-- ---- laws
pub rows_split : (t : List ℤ) (n : ℕ) (r : List ℕ) (a b i : ℕ) → rows_text t n r i (a + b) ≡ rows_text t n r i a
    ++ rows_text t n r (i + a) b
unfolding rows_text
rows_split t n r zero b i = rw (add-zero i, zero_plus b)
  where
    zero_plus : (m : ℕ) → zero + m ≡ m
    zero_plus m = omega arith
rows_split t n r (suc a) b i = rw (suc-add a b, add-suc i a, ← suc-add i a)
    (ap (λ (l : List ℕ). row_text t n r i ++ l) (rows_split t n r a b (suc i))
    ∙ sym (append_assoc (row_text t n r i) (rows_text t n r (suc i) a) _))

pub rows_none : (t : List ℤ) (n : ℕ) (r : List ℕ) (i k : ℕ) → k ≡ 0 → rows_text t n r i k ≡ []
unfolding rows_text
rows_none t n r i k e = rw e

module _ (t : List ℤ) (n first : ℕ) (r : List ℕ) (rs : Records) where
  -- a record that is sound, and one that is not
  pub record_sound : is_sound (record_verdict t (first_length n first (length r)) r) ≡ true
      → records_text t n first (record_and r rs) ≡ record_text t (n + 1) r ++ records_text t (n + 1) (first_length n first (length r)) rs
  unfolding records_text
  record_sound e = rw e

  pub record_fault : is_sound (record_verdict t (first_length n first (length r)) r) ≡ false
      → records_text t n first (record_and r rs) ≡ last_text t
      (go_on (record_verdict t (first_length n first (length r)) r) n (sound_with (n + 1)))
  unfolding records_text
  record_fault e = rw e

  -- a record of which some rows are listed
  pub rest_long : (i : ℕ) → 0 < i → length_of t ≤ length r
      → rest_text t n first i (record_and r rs) ≡ rows_text t (n + 1) r i (rows_of t - i) ++ records_text t (n + 1) first rs
  unfolding rest_text
  rest_long zero h l = absurd (omega arith)
  rest_long (suc i) h l = rw (le-leb (length_of t) (length r) l)

  pub rest_short : (i : ℕ) → 0 < i → length r < length_of t → rest_text t n first i (record_and r rs) ≡ []
  unfolding rest_text
  rest_short zero h l = absurd (omega arith)
  rest_short (suc i) h l = rw (lt-leb (length_of t) (length r) l)

pub rest_over : (t : List ℤ) (n first i : ℕ) → rest_text t n first i over ≡ last_text t (sound_with n)
unfolding rest_text records_text
rest_over t n first zero = refl
rest_over t n first (suc i) = refl

pub rest_unended : (t : List ℤ) (n first i : ℕ) (r : List ℕ) → rest_text t n first i (unended r)
    ≡ last_text t (fault_in (n + 1) (refused 30))
unfolding rest_text records_text
rest_unended t n first zero r = refl
rest_unended t n first (suc i) r = refl

-- the rows so far and one more
pub rows_more : (t : List ℤ) (n : ℕ) (r : List ℕ) (i row : ℕ) → i ≤ row
    → rows_text t n r i (row - i) ++ row_text t n r row ≡ rows_text t n r i (row + 1 - i)
unfolding rows_text
rows_more t n r i row h =
    let e : row + 1 - i ≡ row - i + 1 = omega arith in
    let q : i + (row - i) ≡ row = omega arith in
    rw e (sym (rows_split t n r (row - i) 1 i ∙ rw (q, append-nil (row_text t n r row))))
