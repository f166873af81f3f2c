-- What follows from rule/Turns.antt, and what the code keeps.
use Rattle.std.specs.Prelude.{◌≡◌, refl, Bool, true, false, cond, ℕ, zero, suc, ◌+◌, ◌-◌, ◌≤◌, ◌<◌, max, eqb, leb, ℤ, length}
use Rattle.std.proofs.Math.Path.{sym, ap}
use Rattle.std.proofs.Common.{◌∙◌, leb-true}
use mathlib.Core.List.{List, [], ◌++◌, append_assoc, append-nil}
use Rattle.std.proofs.Math.Nat.{sub-zero}
use native.Mathlib.Omega.{arith}
use Rattle.below.specs.Below.{holds_not}
use Rattle.sound.specs.rule.Rows.{rows_of, length_of}
use Rattle.cuts.specs.rule.Records.{Records, record_and}
use Rattle.records.specs.rule.Verdict.{Verdict, sound, refused, low_byte, bad_field, rows_verdict}
use Rattle.files.specs.rule.File.{FileVerdict, sound_with, bad_table, fault_in, record_verdict, go_on, first_length, is_sound}
use Rattle.lines.specs.rule.Appended.{Appended}
use Rattle.lines.specs.Appended.{nothing_more}
use Rattle.listing.specs.rule.Listing.{rows_text, last_text, records_text, rest_text}
use Rattle.listing.specs.Listing.{rows_split, record_sound, record_fault, rest_long}
use Rattle.listing.specs.Listing.{rest_short}
use Rattle.listing.specs.declared.Listed.{Listed}
use Rattle.listing.specs.declared.Took.{Took}
use Rattle.listing.specs.declared.Took.TheVariants as took

-- the count of records that a verdict names
unfoldable pub count_in : FileVerdict → ℕ
count_in (sound_with n) = n
count_in bad_table = 0
count_in (fault_in n v) = n

-- the rows of record n from i on, up to the one that is answered: at least one where there is room for it
pub record Rows (t : List ℤ) (n : ℕ) (bytes : List ℕ) (i : ℕ) (out : List ℕ) (at : ℕ) (out' : List ℕ) (r : Listed) : Type 0 where
  pub stands : Appended out at (rows_text t n bytes i (r.row - i)) out' r.end
  pub from : i ≤ r.row
  pub within : r.row ≤ max i (rows_of t)
  pub some : i < rows_of t → i < r.row

-- ---- a record with the bytes r, behind which the records rs follow
unfoldable pub took_end : Took → ℕ
took_end (took.Part f i e) = e
took_end (took.Whole f e) = e
took_end (took.Last e) = e

unfoldable pub took_text : List ℤ → ℕ → List ℕ → Records → Took → List ℕ
took_text t n r rs (took.Part f i e) = rest_text t n f i (record_and r rs)
took_text t n r rs (took.Whole f e) = records_text t (n + 1) f rs
took_text t n r rs (took.Last e) = []

-- the listing goes further: more rows of the record are listed
unfoldable pub Further : ℕ → ℕ → Took → Type 0
Further rows row (took.Part f i e) = (row < i) × (i < rows)
Further rows row (took.Whole f e) = Unit
Further rows row (took.Last e) = Unit

pub record Taken (t : List ℤ) (n first row : ℕ) (r : List ℕ) (out : List ℕ) (at : ℕ) (out' : List ℕ) (a : Took) : Type 0 where
  pub text : List ℕ
  pub stands : Appended out at text out' (took_end a)
  pub goes_on : (rs : Records) → rest_text t n first row (record_and r rs) ≡ text ++ took_text t n r rs a
  pub further : Further (rows_of t) row a

-- of a record that is sound, the rows from `row` on
pub record TakenRows (t : List ℤ) (n first row : ℕ) (r : List ℕ) (out : List ℕ) (at : ℕ) (out' : List ℕ) (a : Took) : Type 0 where
  pub text : List ℕ
  pub stands : Appended out at text out' (took_end a)
  pub goes_on : (rs : Records) → rows_text t (n + 1) r row (rows_of t - row) ++ records_text t (n + 1) first rs ≡ text
      ++ took_text t n r rs a
  pub further : Further (rows_of t) row a

-- ---- laws: rows of a record that is sound
module _ (t : List ℤ) (n first row : ℕ) (r : List ℕ) (long : length_of t ≤ length r) {out : List ℕ} {at : ℕ} {out' : List ℕ} {l : Listed}
    (a : Rows t (n + 1) r row out at out' l) where
  rows_left : (k : ℕ) → l.row - row + k ≡ rows_of t - row
      → rows_text t (n + 1) r row (rows_of t - row) ≡ rows_text t (n + 1) r row (l.row - row) ++ rows_text t (n + 1) r l.row k
  rows_left k e =
      let f = a.from in
      let q : row + (l.row - row) ≡ l.row = omega arith in
      rw (← e) (rows_split t (n + 1) r (l.row - row) k row ∙ rw q)

  pub take_part : l.row < rows_of t → TakenRows t n first row r out at out' (took.Part first l.row l.end)
  unfolding took_end took_text Further
  take_part h =
      let f = a.from in
      let g : row < l.row = a.some (omega arith) in
      record {
        text = rows_text t (n + 1) r row (l.row - row);
        stands = a.stands;
        goes_on = λ rs.
            rw (
              rows_left (rows_of t - l.row) (omega arith),
              append_assoc (rows_text t (n + 1) r row (l.row - row)) (rows_text t (n + 1) r l.row (rows_of t - l.row))
                  (records_text t (n + 1) first rs),
            )
            (ap (λ (x : List ℕ). rows_text t (n + 1) r row (l.row - row) ++ x)
            (sym (rest_long t n first r rs l.row (omega arith) long)));
        further = (g, h);
      }

  pub take_whole : rows_of t ≤ l.row → TakenRows t n first row r out at out' (took.Whole first l.end)
  unfolding took_end took_text Further
  take_whole h =
      let f = a.from in
      let w = a.within in
      let e : l.row - row ≡ rows_of t - row = omega arith in
      record { text = rows_text t (n + 1) r row (l.row - row); stands = a.stands; goes_on = λ rs. rw e; further = tt }

-- ---- laws: a record
-- one that is sound is long enough
pub sound_long : (t : List ℤ) (first : ℕ) (r : List ℕ) → is_sound (record_verdict t first r) ≡ true → length_of t ≤ length r
unfolding record_verdict is_sound
sound_long t first r e = go (eqb (length r) first) (leb (length_of t) (length r)) refl e
  where
    go : (p q : Bool) → leb (length_of t) (length r) ≡ q
        → is_sound (cond p (cond q (rows_verdict t (rows_of t) r) (refused 22)) (refused 31)) ≡ true → length_of t ≤ length r
    go true true l h = leb-true (length_of t) (length r) l
    go true false l h = holds_not h refl
    go false q l h = holds_not h refl

module _ (t : List ℤ) (n first : ℕ) (r : List ℕ) {out : List ℕ} {at : ℕ} {out' : List ℕ} where
  -- judged and sound
  first_taken : {a : Took} → is_sound (record_verdict t (first_length n first (length r)) r) ≡ true
      → TakenRows t n (first_length n first (length r)) 0 r out at out' a → Taken t n first 0 r out at out' a
  unfolding rest_text
  first_taken e b = record {
    text = b.text;
    stands = b.stands;
    goes_on = λ rs. record_sound t n first r rs e
        ∙ ap (λ (k : ℕ). rows_text t (n + 1) r 0 k ++ records_text t (n + 1) (first_length n first (length r)) rs)
        (sym (sub-zero (rows_of t)))
        ∙ b.goes_on rs;
    further = b.further;
  }

  -- judged, and the fault is the last line
  fault_taken : {e : ℕ} → is_sound (record_verdict t (first_length n first (length r)) r) ≡ false
      → Appended out at (last_text t (go_on (record_verdict t (first_length n first (length r)) r) n (sound_with (n + 1)))) out' e
      → Taken t n first 0 r out at out' (took.Last e)
  unfolding rest_text took_text took_end Further
  fault_taken i b = record {
    text = _;
    stands = b;
    goes_on = λ rs. record_fault t n first r rs i
        ∙ sym (append-nil (last_text t (go_on (record_verdict t (first_length n first (length r)) r) n (sound_with (n + 1)))));
    further = tt;
  }

  module _ {size row : ℕ} (is : size ≡ first_length n first (length r)) (none : row ≡ 0) where
    pub taken_first : {a : Took} → is_sound (record_verdict t size r) ≡ true → TakenRows t n size 0 r out at out' a
        → Taken t n first row r out at out' a
    taken_first e b = rw none (first_taken (rw is at e) (rw is at b))

    pub taken_fault : {e : ℕ} → is_sound (record_verdict t size r) ≡ false
        → Appended out at (last_text t (go_on (record_verdict t size r) n (sound_with (n + 1)))) out' e
        → Taken t n first row r out at out' (took.Last e)
    taken_fault e b = rw none (fault_taken (rw is at e) (rw is at b))

  -- judged before
  pub taken_more : {row : ℕ} {a : Took} → (row ≡ 0 → ⊥) → length_of t ≤ length r → TakenRows t n first row r out at out' a
      → Taken t n first row r out at out' a
  taken_more {row} z long b = record {
    text = b.text;
    stands = b.stands;
    goes_on = λ rs. rest_long t n first r rs row (some row z) long ∙ b.goes_on rs;
    further = b.further;
  }
    where
      some : (m : ℕ) → (m ≡ 0 → ⊥) → 0 < m
      some zero z = absurd (z refl)
      some (suc m) z = omega arith

pub taken_short : (t : List ℤ) (n first row : ℕ) (r out : List ℕ) (at : ℕ) → (row ≡ 0 → ⊥) → length r < length_of t → at ≤ length out
    → Taken t n first row r out at out (took.Last at)
unfolding took_text took_end Further
taken_short t n first row r out at z short h = record {
  text = [];
  stands = nothing_more out at h;
  goes_on = λ rs. rest_short t n first r rs row (some row z) short;
  further = tt;
}
  where
    some : (m : ℕ) → (m ≡ 0 → ⊥) → 0 < m
    some zero z = absurd (z refl)
    some (suc m) z = omega arith

-- a record's fault names the record
pub count_on : (v : Verdict) (n : ℕ) → count_in (go_on v n (sound_with (n + 1))) ≡ n + 1
unfolding count_in go_on
count_on sound n = refl
count_on (refused k) n = refl
count_on (low_byte p) n = refl
count_on (bad_field i x) n = refl
