-- Some records of a file whose records are all of one length, one behind the other from a byte on: cut behind a record, they are two such
-- parts.
-- Assumes nothing.
use Rattle.std.specs.Prelude.{◌≡◌, false, ℤ, drop}
use Rattle.std.proofs.Math.Path.{refl, sym, ap}
use Rattle.std.proofs.Common.{◌∙◌, subst, zero-add, mul-le-mul_right, drop_of_length-le, drop-cons}
use mathlib.Core.List.{List, [], ◌∷◌, ◌++◌}
use Prim.Native.Nat.{ℕ, zero, suc, ◌+◌, ◌-◌, ◌*◌, ◌≤◌, ◌<◌}
use Rattle.std.proofs.Math.Nat.{suc-mul}
use native.Mathlib.Omega.{arith}
use Rattle.std.proofs.Math.ListN.{length}
use Rattle.cuts.specs.rule.Records.{records_of}
use Rattle.cuts.specs.Records.{part}
use Rattle.layout.specs.declared.Header.{Header}
use Rattle.layout.specs.rule.Row.{row_at}
use Rattle.fields.specs.rule.Row.{reading_of}
use Rattle.sets.specs.rule.Sets.{is_illegal}
use Rattle.matrices.specs.rule.Matrix.{ended_of}
use Rattle.matrices.specs.Records.{AllLong}
use Rattle.matrices.specs.Entries.{record_at}
use Rattle.matrices.specs.Even.{Even, long_at}
use Rattle.matrices.specs.Legal.{AllLegal, legal_at}

-- n records of so many bytes, each a step behind the one before
unfoldable pub records_in : List ℕ → ℕ → ℕ → ℕ → ℕ → List (List ℕ)
records_in d first step from zero = []
records_in d first step from (suc n) = part d from (from + first) ∷ records_in d first step (from + step) n

pub record Steps (d : List ℕ) (first step from n : ℕ) : Type 0 where
  pub inside : (k : ℕ) → k < n → from + k * step + first ≤ length d
  pub whole : from + n * step ≤ length d

-- each is long enough for the table's rows, and they are legal in it
abbrev pub SoundRecord : List ℤ → Header → List ℕ → Type 0
SoundRecord t h r = (h.length ≤ length r) × ((i : ℕ) → i < h.rows → is_illegal (reading_of t h.rows (row_at t i) r) ≡ false)

abbrev pub EachSound : List ℤ → Header → List (List ℕ) → Type 0
EachSound t h rs = (k : ℕ) → k < length rs → SoundRecord t h (record_at rs k)

-- ---- laws
pub times_add : (step n j : ℕ) → (n + j) * step ≡ n * step + j * step
times_add step zero j = let e : 0 + j ≡ j = omega arith in rw e (omega arith)
times_add step (suc n) j =
    let e : suc n + j ≡ suc (n + j) = omega arith in
    rw e (omega (arith, suc-mul (n + j) step, suc-mul n step, times_add step n j))

pub many_cells : (n c : ℕ) → 1 ≤ c → n ≤ n * c
many_cells zero c h = omega arith
many_cells (suc n) c h = omega (arith, suc-mul n c, many_cells n c h)

-- those that are left behind n
pub left_cells : (r n c : ℕ) → n ≤ r → n * c + (r - n) * c ≡ r * c
left_cells r n c h = sym (times_add c n (r - n)) ∙ (let e : n + (r - n) ≡ r = omega arith in rw e)

module _ (d : List ℕ) (first step : ℕ) where
  pub length_records : (from n : ℕ) → length (records_in d first step from n) ≡ n
  unfolding records_in
  length_records from zero = refl
  length_records from (suc n) = ap suc (length_records (from + step) n)

  pub record_in : (from n k : ℕ) → k < n
      → record_at (records_in d first step from n) k ≡ part d (from + k * step) (from + k * step + first)
  unfolding records_in
  record_in from zero k h = absurd (omega arith)
  record_in from (suc n) zero h = let e : from + 0 * step ≡ from = omega arith in rw e
  record_in from (suc n) (suc k) h =
      let e : from + step + k * step ≡ from + suc k * step = omega (arith, suc-mul k step) in
      rw e at (record_in (from + step) n k (omega arith))

  pub records_then : (from a b : ℕ)
      → records_in d first step from (a + b) ≡ records_in d first step from a ++ records_in d first step (from + a * step) b
  unfolding records_in
  records_then from zero b = let e : from + 0 * step ≡ from = omega arith in rw (zero-add b, e)
  records_then from (suc a) b =
      let e : suc a + b ≡ suc (a + b) = omega arith in
      let x : from + suc a * step ≡ from + step + a * step = omega (arith, suc-mul a step) in
      rw (e, x) (ap (λ (l : List (List ℕ)). part d from (from + first) ∷ l) (records_then (from + step) a b))

  pub records_split : (a b : ℕ)
      → records_in d first step 0 (a + b) ≡ records_in d first step 0 a ++ records_in d first step (a * step) b
  records_split a b =
      records_then 0 a b ∙ ap (λ (i : ℕ). records_in d first step 0 a ++ records_in d first step i b) (zero-add (a * step))

  pub records_on : (r n k : ℕ) → n + k ≤ r → records_in d first step (n * step) (r - n)
      ≡ records_in d first step (n * step) k ++ records_in d first step ((n + k) * step) (r - (n + k))
  records_on r n k h =
      let e : r - n ≡ k + (r - (n + k)) = omega arith in
      rw (e, times_add step n k) (records_then (n * step) k (r - (n + k)))

  pub records_all : (r n : ℕ) → n ≤ r
      → records_in d first step 0 r ≡ records_in d first step 0 n ++ records_in d first step (n * step) (r - n)
  records_all r n h =
      let e : r ≡ n + (r - n) = omega arith in
      ap (records_in d first step 0) e ∙ records_split n (r - n)

  -- a part of a part
  pub steps_first : {r : ℕ} → Steps d first step 0 r → (n : ℕ) → n ≤ r → Steps d first step 0 n
  steps_first {r} s n h =
      record { inside = λ j l. s.inside j (omega arith); whole = omega (arith, s.whole, mul-le-mul_right {m = n} {n = r} step h) }

  pub steps_part : (n k : ℕ) → Steps d first step 0 (n + k) → Steps d first step (n * step) k
  steps_part n k s =
      record {
        inside = λ j l. omega (arith, times_add step n j, s.inside (n + j) (omega arith));
        whole = omega
            (arith, times_add step n k, s.whole);
      }

  module _ (t : List ℤ) (h : Header) where
    pub sound_first : {r : ℕ} → EachSound t h (records_in d first step 0 r) → (n : ℕ) → n ≤ r
        → EachSound t h (records_in d first step 0 n)
    sound_first {r} s n l k low =
        let i : k < n = omega (arith, low, length_records 0 n) in
        subst (SoundRecord t h) (record_in 0 r k (omega arith) ∙ sym (record_in 0 n k i)) (s k (omega (arith, i, length_records 0 r)))

    pub sound_part : (n m : ℕ) → EachSound t h (records_in d first step 0 (n + m)) → EachSound t h (records_in d first step (n * step) m)
    sound_part n m s k low =
        let i : k < m = omega (arith, low, length_records (n * step) m) in
        let e : 0 + (n + k) * step ≡ n * step + k * step = omega (arith, times_add step n k) in
        subst (SoundRecord t h)
        (record_in 0 (n + m) (n + k) (omega arith) ∙ ap (λ (x : ℕ). part d x (x + first)) e ∙ sym (record_in (n * step) m k i))
        (s (n + k) (omega (arith, i, length_records 0 (n + m))))

-- ALL RECORDS of a file are such a part
module _ {d : List ℕ} {first step : ℕ} (e : Even d first step) where
  abbrev rs : List (List ℕ)
  rs = ended_of (records_of d)

  from_on : (n k : ℕ) → n + k ≡ length rs → records_in d first step (k * step) n ≡ drop k rs
  unfolding records_in
  from_on zero k h = let low : length rs ≤ k = omega arith in sym (drop_of_length-le rs low)
  from_on (suc n) k h =
      let x : k * step + step ≡ suc k * step = omega (arith, suc-mul k step) in
      let low : k < length rs = omega arith in
      rw (drop-cons rs k [] low, e.at k low, x, from_on n (suc k) (omega arith))

  pub even_records : {n : ℕ} → n ≡ length rs → records_in d first step 0 n ≡ rs
  even_records {n} h =
      let z : 0 * step ≡ 0 = omega arith in
      ap (λ (i : ℕ). records_in d first step i n) (sym z) ∙ from_on n 0 (omega arith)

  pub even_steps : {n : ℕ} → n ≡ length rs → Steps d first step 0 n
  even_steps h = record {
    inside = λ k l. omega (arith, e.inside k (omega (arith, l, h)));
    whole = omega (arith, e.whole, ap (λ (x : ℕ). x * step) h);
  }

  pub even_sound : (t : List ℤ) (h : Header) {n : ℕ} → n ≡ length rs → AllLong h.length rs → AllLegal t h.rows rs
      → EachSound t h (records_in d first step 0 n)
  even_sound t h {n} m a b =
      subst (EachSound t h) (sym (even_records m)) (λ k l. (long_at h.length rs k a l, legal_at t h.rows rs k b l))
