-- The records of a sound file are all as long as its first: each starts and ends where its number says, and nobody need search for it.
-- Assumes nothing.
use Rattle.std.specs.Prelude.{◌≡◌, refl, Bool, true, false, cond, List, [], ◌∷◌, ◌++◌, eqb, leb, ℤ, take, drop}
use Rattle.std.proofs.Common.{sym, ◌∙◌, subst, append_assoc, eqb-true, ne_eqb, length-take, length-drop}
use Rattle.std.proofs.Math.Path.{ap}
use Prim.Native.Nat.{ℕ, zero, suc, ◌+◌, ◌-◌, ◌*◌, ◌≤◌, ◌<◌}
use Rattle.std.proofs.Math.Nat.{suc-mul}
use native.Mathlib.Omega.{arith}
use Rattle.std.proofs.lemmas.Bool.{eqb-false}
use Rattle.std.proofs.Math.ListN.{length, length-append}
use Rattle.std.proofs.Math.Seq.{take_at, drop-append-add}
use Rattle.below.specs.Below.{holds_not}
use Rattle.cuts.specs.declared.Terminator.{Terminator}
use Rattle.cuts.specs.declared.Next.TheVariants.{Ended, Unended, Nothing}
use Rattle.cuts.specs.rule.Cut.{next_from, terminator_of}
use Rattle.cuts.specs.rule.Records.{Records, over, unended, record_and, records_from, records_of, terminator_bytes, laid, length_of_first}
use Rattle.cuts.specs.Records.{part, laid_again, next_ended, next_unended, next_nothing, over_past}
use Rattle.sound.specs.rule.Sound.{well_formed}
use Rattle.sound.specs.rule.Rows.{rows_of, length_of}
use Rattle.records.specs.rule.Verdict.{refused, rows_verdict}
use Rattle.files.specs.rule.File.{sound_with, bad_table, record_verdict, first_length, records_verdict, file_verdict}
use Rattle.files.specs.rule.File.{is_sound}
use Rattle.matrices.specs.rule.Matrix.{ended_of}
use Rattle.matrices.specs.Records.{AllLong, went_on}
use Rattle.matrices.specs.Entries.{record_at}

-- every record has its terminator, and just so many bytes
unfoldable pub AllOf : ℕ → Records → Type 0
AllOf n over = Unit {0}
AllOf n (unended r) = ⊥
AllOf n (record_and r rs) = (length r ≡ n) × AllOf n rs

-- record n starts at n steps, and has `first` bytes
pub record Even (d : List ℕ) (first step : ℕ) : Type 0 where
  pub at : (n : ℕ) → n < length (ended_of (records_of d)) → record_at (ended_of (records_of d)) n ≡ part d (n * step) (n * step + first)
  pub inside : (n : ℕ) → n < length (ended_of (records_of d)) → n * step + first ≤ length d
  pub whole : length (ended_of (records_of d)) * step ≤ length d

-- ---- a sound file's records
record_same : (t : List ℤ) (first : ℕ) (r : List ℕ) → is_sound (record_verdict t first r) ≡ true → length r ≡ first
unfolding record_verdict is_sound
record_same t first r e = go (eqb (length r) first) (leb (length_of t) (length r)) refl e
  where
    go : (p q : Bool) → eqb (length r) first ≡ p
        → is_sound (cond p (cond q (rows_verdict t (rows_of t) r) (refused 22)) (refused 31)) ≡ true → length r ≡ first
    go true q b g = eqb-true (length r) first b
    go false q b g = holds_not g refl

records_even : (t : List ℤ) (rs : Records) (n first m : ℕ) → 1 ≤ n → records_verdict t n first rs ≡ sound_with m → AllOf first rs
unfolding records_verdict AllOf first_length
records_even t over n first m h e = tt
records_even t (unended r) n first m h e = let z : ◌≡◌ {A = ℕ} 0 1 = cc in absurd (omega arith)
records_even t (record_and r rs) n first m h e =
    let f : first_length n first (length r) ≡ first = rw (ne_eqb n 0 (λ z. omega arith)) in
    let w = went_on (record_verdict t first r) n m (records_verdict t (n + 1) first rs)
    (rw f at e) in
    (record_same t first r w.0, records_even t rs (n + 1) first m (omega arith) w.1)

pub file_even : (t : List ℤ) (d : List ℕ) (m : ℕ) → file_verdict t d ≡ sound_with m → AllOf (length_of_first (records_of d)) (records_of d)
unfolding file_verdict records_verdict first_length AllOf length_of_first
file_even t d m = go (well_formed t)
  where
    all : (rs : Records) → records_verdict t 0 0 rs ≡ sound_with m → AllOf (length_of_first rs) rs
    all over e = tt
    all (unended r) e = let z : ◌≡◌ {A = ℕ} 0 1 = cc in absurd (omega arith)
    all (record_and r rs) e =
        let w = went_on (record_verdict t (length r) r) 0 m (records_verdict t 1 (length r) rs) e in
        (refl, records_even t rs 1 (length r) m (omega arith) w.1)

    go : (b : Bool) → cond b (records_verdict t 0 0 (records_of d)) bad_table ≡ sound_with m
        → AllOf (length_of_first (records_of d)) (records_of d)
    go true e = all (records_of d) e
    go false e = let z : ◌≡◌ {A = ℕ} 0 1 = cc in absurd (omega arith)

pub long_at : (n : ℕ) (rs : List (List ℕ)) (k : ℕ) → AllLong n rs → k < length rs → n ≤ length (record_at rs k)
unfolding AllLong
long_at n [] k a h = absurd (omega arith)
long_at n (r ∷ rs) zero a h = a.0
long_at n (r ∷ rs) (suc k) a h = long_at n rs k a.1 (omega arith)

-- ---- records of one length, laid end to end
module _ (w : Terminator) (size : ℕ) where
  abbrev each : ℕ
  each = size + length (terminator_bytes w)

  laid_length : (rs : Records) → AllOf size rs → length (laid w rs) ≡ length (ended_of rs) * each
  unfolding AllOf ended_of laid
  laid_length over a = omega arith
  laid_length (unended r) a = absurd a
  laid_length (record_and r rs) a =
      omega (
        arith,
        a.0,
        length-append (r ++ terminator_bytes w) (laid w rs),
        length-append r (terminator_bytes w),
        laid_length rs a.1,
        suc-mul (length (ended_of rs)) each,
      )

  laid_at : (rs : Records) → AllOf size rs → (n : ℕ) → n < length (ended_of rs)
      → record_at (ended_of rs) n ≡ take size (drop (n * each) (laid w rs))
  unfolding AllOf ended_of laid
  laid_at over a n h = absurd (omega arith)
  laid_at (unended r) a n h = absurd a
  laid_at (record_and r rs) a zero h =
      let z : 0 * each ≡ 0 = omega arith in
      rw z (sym (ap (take size) (append_assoc r (terminator_bytes w) (laid w rs)) ∙ take_at r (terminator_bytes w ++ laid w rs) size a.0))
  laid_at (record_and r rs) a (suc n) h =
      let b = r ++ terminator_bytes w in
      let p : suc n * each ≡ length b + n * each = omega (arith, a.0, suc-mul n each, length-append r (terminator_bytes w)) in
      rw p (laid_at rs a.1 n (omega arith) ∙ ap (take size) (sym (drop-append-add b (laid w rs) (n * each))))

terminator_long : (w : Terminator) → 1 ≤ w.size → w.size ≤ 2 → length (terminator_bytes w) ≡ w.size
unfolding terminator_bytes
terminator_long w a b = go (eqb w.size 2) refl
  where
    go : (q : Bool) → eqb w.size 2 ≡ q → length (cond q (w.first ∷ w.second ∷ []) (w.first ∷ [])) ≡ w.size
    go true e = sym (eqb-true w.size 2 e)
    go false e = let n = eqb-false w.size 2 e in one w.size a b n
      where
        one : (k : ℕ) → 1 ≤ k → k ≤ 2 → (k ≡ 2 → ⊥) → 1 ≡ k
        one zero i j n = absurd (omega arith)
        one (suc zero) i j n = refl
        one (suc (suc zero)) i j n = absurd (n refl)
        one (suc (suc (suc k))) i j n = absurd (omega arith)

-- EVERY RECORD AT ITS STEP
pub steps_even : (d : List ℕ) (size : ℕ) → AllOf size (records_of d) → 1 ≤ (terminator_of d).size → (terminator_of d).size ≤ 2
    → {step : ℕ} → step ≡ size + (terminator_of d).size → Even d size step
steps_even d size a lo hi {step} e =
    let w = terminator_of d in
    let s : step ≡ size + length (terminator_bytes w) = rw (terminator_long w lo hi) e in
    let rs = ended_of (records_of d) in
    let l : length d ≡ length rs * step =
    ap (λ (x : List ℕ). length x) (sym (laid_again d)) ∙ laid_length w size (records_of d) a ∙ ap (λ (x : ℕ). length rs * x) (sym s) in
    record {
      at = λ n h.
          let k : n * step + size - n * step ≡ size = omega arith in
          laid_at w size (records_of d) a n h
          ∙ ap (λ (x : List ℕ). take size (drop (n * (size + length (terminator_bytes w))) x)) (laid_again d)
          ∙ ap (λ (x : ℕ). take size (drop (n * x) d)) (sym s)
          ∙ ap (λ (x : ℕ). take x (drop (n * step) d)) (sym k);
      inside = λ n h. within n (length rs) h (omega arith);
      whole = omega arith;
    }
  where
    within : (n m : ℕ) → n < m → m * step ≤ length d → n * step + size ≤ length d
    within n m h l = let p = suc-mul n step in omega (arith, p, e, up n m h)
      where
        up : (n m : ℕ) → n < m → suc n * step ≤ m * step
        up n zero h = absurd (omega arith)
        up zero (suc m) h = omega (arith, suc-mul m step)
        up (suc n) (suc m) h = omega (arith, suc-mul (suc n) step, suc-mul m step, up n m (omega arith))

-- a file without records
pub none_even : (d : List ℕ) → length (ended_of (records_of d)) ≡ 0 → Even d 0 0
none_even d e = record { at = λ n h. absurd (omega arith); inside = λ n h. absurd (omega arith); whole = rw e (omega arith) }

-- ---- the first record tells where the others stand
module _ (d : List ℕ) {w : Terminator} (is : w ≡ terminator_of d) where
  same_records : records_from w (drop 0 d) ≡ records_of d
  unfolding records_of
  same_records = ap (λ (x : Terminator). records_from x d) is

  pub first_ended : w.size ≤ 2 → AllOf (length_of_first (records_of d)) (records_of d) → {a e n : ℕ} → next_from w 0 (drop 0 d)
      ≡ Ended a e n
      → Even d e n
  unfolding length_of_first
  first_ended few all {a} {e} {n} q =
      let x = next_ended d w 0 q in
      let f : length_of_first (records_of d) ≡ length (part d 0 e) = ap length_of_first (sym same_records ∙ x.records) in
      let l : length (part d 0 e) ≡ e = rw (length-take, length-drop) (omega (arith, x.inside)) in
      let s = ap (λ (y : Terminator). y.size) is in
      steps_even d e (subst (λ (k : ℕ). AllOf k (records_of d)) (f ∙ l) all) (omega (arith, s, x.sized)) (omega (arith, s, few))
      (x.next ∙ ap (λ (k : ℕ). e + k) s)

  pub first_unended : {a e : ℕ} → next_from w 0 (drop 0 d) ≡ Unended a e → Even d 0 0
  unfolding ended_of
  first_unended q = none_even d (ap (λ (rs : Records). length (ended_of rs)) (sym same_records ∙ (next_unended d w 0 q).records))

  pub first_nothing : next_from w 0 (drop 0 d) ≡ Nothing → Even d 0 0
  unfolding ended_of
  first_nothing q =
      none_even d (ap (λ (rs : Records). length (ended_of rs)) (sym same_records ∙ over_past d w 0 (next_nothing d w 0 q)))
