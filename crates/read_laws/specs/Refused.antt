-- What follows from rule/Refused.antt, and what the code keeps.
use Rattle.std.proofs.Math.Path.{◌≡◌, refl, sym, ap}
use Rattle.std.proofs.Common.{◌∙◌, eq-or-lt_of_le, arith}
use Rattle.std.proofs.Math.Logic.{⊎_elim}
use Rattle.std.specs.Prelude.{Bool, List, leb, ℤ, length, Option, Some, None}
use Rattle.std.proofs.Math.Bool.{true, false, cond}
use Prim.Native.Nat.{ℕ, zero, suc, ◌+◌, ◌≤◌, ◌<◌}
use borrow.Author.Tests.{le-leb, leb-true, leb-false, lt-leb, le-ltb, ltb-false}
use Rattle.sound.specs.rule.Sound.{well_formed}
use Rattle.sound.specs.rule.Rows.{rows_of, length_of}
use Rattle.lows.specs.rule.Lows.{low_at}
use Rattle.records.specs.rule.First.{first_from, bad_row, row_fault}
use Rattle.records.specs.rule.Verdict.{Verdict, sound, refused, low_byte, bad_field, row_verdict, byte_verdict, rows_verdict}
use Rattle.records.specs.rule.Verdict.{verdict_of, RecordJudged}
use Rattle.records.proofs.Laws.{first_nowhere}
use Rattle.read_laws.specs.rule.Refused.{IsFirst, Passes, NoLow, RecordOutcome, not_formed, too_short, low_byte_lem, bad_field_lem}
use Rattle.read_laws.specs.rule.Refused.{no_fault}

module _ (f : ℕ → Bool) where
  pub none_found : (n i : ℕ) → first_from f i n ≡ None → (j : ℕ) → i ≤ j → j < i + n → f j ≡ false
  unfolding first_from
  none_found zero i e j a b = absurd (omega arith)
  none_found (suc n) i e j a b = go (f i) refl e (λ q. none_found n (suc i) q)
    where
      go : (c : Bool) → f i ≡ c → cond c (Some i) (first_from f (suc i) n) ≡ None
          → (first_from f (suc i) n ≡ None → (j : ℕ) → suc i ≤ j → j < suc i + n → f j ≡ false) → f j ≡ false
      go true q p ih = let z : ◌≡◌ {A = ℕ} 0 1 = cc in absurd (omega arith)
      go false q p ih = ⊎_elim (λ s. ap f (sym s) ∙ q) (λ l. ih p j l (omega arith)) (eq-or-lt_of_le a)

  pub nothing_found : (n i : ℕ) → ((j : ℕ) → i ≤ j → j < i + n → f j ≡ false) → first_from f i n ≡ None
  unfolding first_from
  nothing_found zero i h = refl
  nothing_found (suc n) i h = rw (h i (omega arith) (omega arith)) (nothing_found n (suc i) (λ j a b. h j (omega arith) (omega arith)))

  pub first_is : (n i k : ℕ) → first_from f i n ≡ Some k → IsFirst f i n k
  unfolding first_from
  first_is zero i k e = let z : ◌≡◌ {A = ℕ} 0 1 = cc in absurd (omega arith)
  first_is (suc n) i k e = go (f i) refl e (λ q. first_is n (suc i) k q)
    where
      go : (c : Bool) → f i ≡ c → cond c (Some i) (first_from f (suc i) n) ≡ Some k
          → (first_from f (suc i) n ≡ Some k → IsFirst f (suc i) n k) → IsFirst f i (suc n) k
      go true q p ih =
          let s : i ≡ k = cc in
          record { from = omega arith; below = omega arith; passes = ap f (sym s) ∙ q; none = λ j a b. absurd (omega arith) }
      go false q p ih =
          let r = ih p in
          let x = r.from in let y = r.below in
          record {
            from = omega arith;
            below = omega arith;
            passes = r.passes;
            none = λ j a b. ⊎_elim (λ s. ap f (sym s) ∙ q)
                (λ l. r.none j l b) (eq-or-lt_of_le a);
          }

-- ---- a whole record
module _ (t : List ℤ) (good : well_formed t ≡ true) (bytes : List ℕ) where
  -- REFUSED EXACTLY WHEN: a record that passes is sound
  pub passes_sound : Passes t good bytes → verdict_of t bytes ≡ sound
  unfolding verdict_of rows_verdict byte_verdict row_verdict
  passes_sound p =
      rw (
        good,
        le-leb _ _ p.long,
        nothing_found (low_at bytes) (length bytes) 0 (λ j a b. le-ltb _ _ (p.plain j (omega arith))),
        nothing_found (bad_row t (rows_of t) bytes) (rows_of t) 0 (λ j a b. p.legal_rows j (omega arith)),
      )

  by_rows : length_of t ≤ length bytes → first_from (low_at bytes) 0 (length bytes) ≡ None → (x : Option ℕ)
      → first_from (bad_row t (rows_of t) bytes) 0 (rows_of t) ≡ x
      → row_verdict (row_fault t (rows_of t) bytes) x ≡ sound → Passes t good bytes
  unfolding row_verdict
  by_rows l q (Some i) r v = let z : ◌≡◌ {A = ℕ} 0 1 = cc in absurd (omega arith)
  by_rows l q None r v = record {
    long = l;
    plain = λ p h. ltb-false _ _ (first_nowhere (low_at bytes) (length bytes) 0 q p (omega arith) (omega arith));
    legal_rows = λ i h. first_nowhere (bad_row t (rows_of t) bytes) (rows_of t) 0 r i (omega arith) (omega arith);
  }

  by_bytes : length_of t ≤ length bytes → (x : Option ℕ) → first_from (low_at bytes) 0 (length bytes) ≡ x
      → byte_verdict x (row_verdict (row_fault t (rows_of t) bytes) (first_from (bad_row t (rows_of t) bytes) 0 (rows_of t))) ≡ sound
      → Passes t good bytes
  unfolding byte_verdict
  by_bytes l (Some p) q v = let z : ◌≡◌ {A = ℕ} 0 1 = cc in absurd (omega arith)
  by_bytes l None q v = by_rows l q (first_from (bad_row t (rows_of t) bytes) 0 (rows_of t)) refl v

  by_length : (c : Bool) → leb (length_of t) (length bytes) ≡ c → cond c (rows_verdict t (rows_of t) bytes) (refused 22) ≡ sound
      → Passes t good bytes
  unfolding rows_verdict
  by_length true q v = by_bytes (leb-true _ _ q) (first_from (low_at bytes) 0 (length bytes)) refl v
  by_length false q v = let z : ◌≡◌ {A = ℕ} 0 1 = cc in absurd (omega arith)

  -- and one that is sound passes
  pub sound_passes : verdict_of t bytes ≡ sound → Passes t good bytes
  unfolding verdict_of
  sound_passes e = by_length (leb (length_of t) (length bytes)) refl (rw good at e)

  -- THE NUMBERS: 22 exactly when it is too short
  pub short_refused : length bytes < length_of t → verdict_of t bytes ≡ refused 22
  unfolding verdict_of
  short_refused h = rw (good, lt-leb _ _ h)

  module _ (long : length_of t ≤ length bytes) where
    -- 23 with the first byte below 32
    pub low_refused : (p : ℕ) → first_from (low_at bytes) 0 (length bytes) ≡ Some p → verdict_of t bytes ≡ low_byte p
    unfolding verdict_of rows_verdict byte_verdict
    low_refused p e = rw (good, le-leb _ _ long, e)

    pub low_first : (p : ℕ) → first_from (low_at bytes) 0 (length bytes) ≡ Some p → IsFirst (low_at bytes) 0 (length bytes) p
    low_first p e = first_is (low_at bytes) (length bytes) 0 p e

    -- the lowest illegal row with what is wrong with it, where no byte is below 32
    pub row_refused : (i : ℕ) → first_from (low_at bytes) 0 (length bytes) ≡ None
        → first_from (bad_row t (rows_of t) bytes) 0 (rows_of t) ≡ Some i
        → verdict_of t bytes ≡ bad_field i (row_fault t (rows_of t) bytes i)
    unfolding verdict_of rows_verdict byte_verdict row_verdict
    row_refused i q e = rw (good, le-leb _ _ long, q, e)

    pub row_first : (i : ℕ) → first_from (bad_row t (rows_of t) bytes) 0 (rows_of t) ≡ Some i
        → IsFirst (bad_row t (rows_of t) bytes) 0 (rows_of t) i
    row_first i e = first_is (bad_row t (rows_of t) bytes) (rows_of t) 0 i e

-- ---- EXACTLY WHEN, as one theorem: what is judged of a record, each verdict with what it says
-- the first number that passes is found
pub first_found : (f : ℕ → Bool) (n i k : ℕ) → IsFirst f i n k → first_from f i n ≡ Some k
unfolding first_from
first_found f zero i k h = absurd (omega (arith, h.from, h.below))
first_found f (suc n) i k h =
    ⊎_elim (λ e. let p : f i ≡ true = ap f e ∙ h.passes in rw p (ap Some e))
    (λ l. rw (h.none i (omega arith) l)
    (first_found f n (suc i) k
    (record { from = l; below = omega (arith, h.below); passes = h.passes; none = λ j a b. h.none j (omega arith) b })))
    (eq-or-lt_of_le h.from)

module _ (t : List ℤ) (bytes : List ℕ) where
  none_low : NoLow bytes → first_from (low_at bytes) 0 (length bytes) ≡ None
  none_low h = nothing_found (low_at bytes) (length bytes) 0 (λ j a b. h j (omega arith))

  -- what is so has its verdict
  pub record_only : {v : Verdict} → RecordOutcome t bytes v → RecordJudged t bytes v
  unfolding verdict_of
  record_only (not_formed e) = record { says = rw e }
  record_only (too_short g l) = record { says = sym (short_refused t g bytes l) }
  record_only (low_byte_lem {p} g l f) = record { says = sym (low_refused t g bytes l p (first_found (low_at bytes) (length bytes) 0 p f)) }
  record_only (bad_field_lem {i} g l n f) = record {
    says = sym (row_refused t g bytes l i (none_low n) (first_found (bad_row t (rows_of t) bytes) (rows_of t) 0 i f));
  }
  record_only (no_fault g p) = record { says = sym (passes_sound t g bytes p) }

  -- and the verdict names what is so
  verdict_named : RecordOutcome t bytes (verdict_of t bytes)
  unfolding verdict_of rows_verdict byte_verdict row_verdict
  verdict_named = formed (well_formed t) refl
    where
      lows : Option ℕ
      lows = first_from (low_at bytes) 0 (length bytes)

      rows : Option ℕ
      rows = first_from (bad_row t (rows_of t) bytes) 0 (rows_of t)

      rowed : well_formed t ≡ true → length_of t ≤ length bytes → lows ≡ None → (x : Option ℕ) → rows ≡ x
          → RecordOutcome t bytes (row_verdict (row_fault t (rows_of t) bytes) x)
      rowed g l q (Some i) e =
          bad_field_lem g l (λ p h. first_nowhere (low_at bytes) (length bytes) 0 q p (omega arith) (omega arith))
          (first_is (bad_row t (rows_of t) bytes) (rows_of t) 0 i e)
      rowed g l q None e = no_fault g (by_rows t g bytes l q None e refl)

      byted : well_formed t ≡ true → length_of t ≤ length bytes → (x : Option ℕ) → lows ≡ x
          → RecordOutcome t bytes (byte_verdict x (row_verdict (row_fault t (rows_of t) bytes) rows))
      byted g l (Some p) e = low_byte_lem g l (first_is (low_at bytes) (length bytes) 0 p e)
      byted g l None e = rowed g l e rows refl

      longer : well_formed t ≡ true → (b : Bool) → leb (length_of t) (length bytes) ≡ b
          → RecordOutcome t bytes (cond b (byte_verdict lows (row_verdict (row_fault t (rows_of t) bytes) rows)) (refused 22))
      longer g true e = byted g (leb-true (length_of t) (length bytes) e) lows refl
      longer g false e = too_short g (leb-false (length_of t) (length bytes) e)

      formed : (b : Bool) → well_formed t ≡ b
          → RecordOutcome t bytes
          (cond b
          (cond (leb (length_of t) (length bytes)) (byte_verdict lows (row_verdict (row_fault t (rows_of t) bytes) rows)) (refused 22))
          (refused 20))
      formed true g = longer g (leb (length_of t) (length bytes)) refl
      formed false g = not_formed g

  pub record_named : {v : Verdict} → RecordJudged t bytes v → RecordOutcome t bytes v
  record_named w = rw w.says verdict_named
