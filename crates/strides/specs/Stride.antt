-- What follows from rule/Stride.antt, and what the code keeps.
use Rattle.std.specs.Prelude.{◌≡◌, ◌⊎◌, Bool, ◌||◌, List, eqb, ℤ, pos, negsuc, length, get_or, set}
use Rattle.std.proofs.Math.Path.{refl}
use Rattle.std.proofs.Common.{sym, ap, ◌∙◌, ⊎_elim, eq-or-lt_of_le, le_of_suc-le-suc, not-suc-le-zero, mul-suc, mul-le-mul_left}
use Rattle.std.proofs.Common.{get_or-set_same, get_or-set_other}
use Rattle.std.proofs.Math.Bool.{true, false, not}
use Prim.Native.Nat.{ℕ, zero, suc, ◌+◌, ◌-◌, ◌*◌, ◌%◌, ◌≤◌, ◌<◌}
use native.Mathlib.Omega.{arith}
use borrow.Author.Tests.{not-true, ne_eqb, eqb-true, eqb-false, leb-true}
use Rattle.std.specs.Int.Signed.{le_z}
use Rattle.below.specs.rule.Below.{all_below}
use Rattle.below.specs.Below.{all_none, all_more, all_at_lem, all_of, holds_not, or_true}
use Rattle.cells.specs.rule.Cell.{count_of, eq_z, signed_of}
use Rattle.cells.specs.Cell.{same_true}
use Rattle.cells.specs.Order.{le_self, le_join, le_else}
use Rattle.strides.specs.rule.Stride.{unlike, number_new, all_differ}

-- n such numbers stand in the table
pub record Strided (t : List ℤ) (at step n : ℕ) : Type 0 where
  pub few : n ≤ 4096
  pub apart : 1 ≤ step
  pub near : step ≤ 64
  pub stand : at + step * n ≤ length t

-- the number at k is above the one before it
unfoldable pub above : (ℕ → ℤ) → ℕ → Bool
above f k = not (le_z (f k) (f (k - 1)))

unfoldable pub rises_at : (ℕ → ℤ) → ℕ → Bool
rises_at f k = eqb k 0 || above f k

unfoldable pub all_rise : (ℕ → ℤ) → ℕ → Bool
all_rise f n = all_below n (rises_at f)

-- where a number leaves its mark
unfoldable pub mark_of : ℤ → ℕ
mark_of z = (signed_of z).size % 16381

-- the first k numbers have left their marks, each at its place
pub record Left (place : ℤ → ℕ) (f : ℕ → ℤ) (k : ℕ) (marks : List ℕ) : Type 0 where
  pub left : (j : ℕ) → j < k → get_or marks (place (f j)) 0 ≡ 1

-- ---- laws
-- a number of a stride stands in the table
pub stride_in : {t : List ℤ} {at step n : ℕ} → Strided t at step n → (k : ℕ) → k < n → at + step * k + step ≤ length t
stride_in {t} {at} {step} {n} s k h =
    let m : step * suc k ≤ step * n = mul-le-mul_left step h in
    let e = mul-suc step k in
    omega (arith, s.stand)

module _ (f : ℕ → ℤ) where
  pub rises_first : all_below 1 (rises_at f) ≡ true
  unfolding rises_at
  rises_first = all_more (rises_at f) 0 (all_none (rises_at f)) refl

  pub rises_here : (k : ℕ) → above f k ≡ true → rises_at f k ≡ true
  unfolding rises_at
  rises_here k e = rw e (or_true (eqb k 0))

  pub rises_not : (k : ℕ) → 1 ≤ k → above f k ≡ false → rises_at f k ≡ false
  unfolding rises_at
  rises_not k h e = rw (e, ne_eqb k 0 (λ q. omega arith))

module _ (place : ℤ → ℕ) (f : ℕ → ℤ) where
  -- a number whose mark's place is that of no earlier one is new
  new_by_mark : (k : ℕ) → ((j : ℕ) → j < k → place (f k) ≡ place (f j) → ⊥) → number_new f k ≡ true
  unfolding number_new
  new_by_mark k g = all_of (unlike f k) k (λ j h. go j h (eq_z (f k) (f j)) refl)
    where
      go : (j : ℕ) → j < k → (b : Bool) → eq_z (f k) (f j) ≡ b → not b ≡ true
      go j h true e = absurd (g j h (ap place (same_true (f k) (f j) e)))
      go j h false e = refl

  -- no mark at its place: a number is new
  pub new_unmarked : (k p : ℕ) (marks : List ℕ) → Left place f k marks → p ≡ place (f k) → get_or marks p 0 ≡ 0 → number_new f k ≡ true
  new_unmarked k p marks l e z =
      new_by_mark k (λ j h q. let a : get_or marks (place (f j)) 0 ≡ 0 = rw (← q, ← e) z in omega (arith, l.left j h))

  -- one mark more
  pub left_more : (k p : ℕ) (marks : List ℕ) → p < length marks → p ≡ place (f k) → Left place f k marks
      → Left place f (k + 1) (set marks p 1)
  left_more k p marks h e l = record { left = λ j i. go j (eqb (place (f j)) p) refl (each k j i) }
    where
      each : (k j : ℕ) → j < k + 1 → (j ≡ k) ⊎ (j < k)
      each k j h = let g : j ≤ k = omega arith in eq-or-lt_of_le g

      go : (j : ℕ) (b : Bool) → eqb (place (f j)) p ≡ b → (j ≡ k) ⊎ (j < k) → get_or (set marks p 1) (place (f j)) 0 ≡ 1
      go j true q c = rw (eqb-true (place (f j)) p q) (get_or-set_same marks p 1 0 h)
      go j false q c =
          ⊎_elim (λ r. absurd (eqb-false (place (f j)) p q (rw r (sym e))))
          (λ m. get_or-set_other marks p (place (f j)) 1 0 (eqb-false (place (f j)) p q) ∙ l.left j m)
          c

-- a number within limits is a count below them
pub count_within : (z : ℤ) (m : ℕ) → le_z (pos 0) z ≡ true → le_z z (pos m) ≡ true → count_of z < m + 1
unfolding count_of
count_within (pos n) m e g = omega (arith, leb-true n m g)
count_within (negsuc n) m e g = holds_not e refl

-- ---- rising numbers: each later one is above each earlier one
failed : (b : Bool) → (b ≡ true → false ≡ true) → b ≡ false
failed true g = sym (g refl)
failed false g = refl

module _ (f : ℕ → ℤ) (n : ℕ) (r : all_rise f n ≡ true) where
  step_up : (k : ℕ) → suc k < n → le_z (f (suc k)) (f k) ≡ false
  unfolding all_rise rises_at above
  step_up k h =
      let p : suc k - 1 ≡ k = omega arith in
      not-true (le_z (f (suc k)) (f k)) (rw (ne_eqb (suc k) 0 (λ q. omega arith), p) at (all_at_lem (rises_at f) n (suc k) h r))

  rise : (j i : ℕ) → i < j → j < n → le_z (f j) (f i) ≡ false
  rise zero i h l = absurd (not-suc-le-zero h)
  rise (suc j) i h l =
      ⊎_elim
      (λ q. rw q (step_up j l))
      (λ m. failed (le_z (f (suc j)) (f i))
      (λ e. sym (step_up j l) ∙ le_join (f (suc j)) (f i) (f j) e (le_else (f j) (f i) (rise j i m (omega arith)))))
      (eq-or-lt_of_le (le_of_suc-le-suc h))

  pub rise_le : (j i : ℕ) → i ≤ j → j < n → le_z (f i) (f j) ≡ true
  rise_le j i h l = ⊎_elim (λ q. rw q (le_self (f j))) (λ m. le_else (f j) (f i) (rise j i m l)) (eq-or-lt_of_le h)

  differs : (k j : ℕ) → j < k → k < n → not (eq_z (f k) (f j)) ≡ true
  differs k j h l = go (eq_z (f k) (f j)) refl
    where
      go : (b : Bool) → eq_z (f k) (f j) ≡ b → not b ≡ true
      go true e = let q : f k ≡ f j = same_true (f k) (f j) e in holds_not (rw q (le_self (f j))) (rise k j h l)
      go false e = refl

  pub rise_differ : all_differ f n ≡ true
  unfolding all_differ number_new
  rise_differ = all_of (number_new f) n (λ k l. all_of (unlike f k) k (λ j h. differs k j h l))
