-- What follows from rule/Tens.antt, and what the code keeps.
use Rattle.std.specs.Prelude.{ℕ, zero, suc, ◌+◌, ◌^◌, ◌<◌, ◌≤◌, ◌≡◌, refl, Bool, true, false, cond, ltb}
use Rattle.std.proofs.Common.{⊎_elim, add-zero, add-suc, suc-add, eq-or-lt_of_le, arith, ltb-true, ltb-false}
use Rattle.ascii.specs.rule.Tens.{count_from, digits_of}

-- ---- laws
-- n is below the power of ten of its digits
counted : (f k n : ℕ) → n < 10 ^ (k + f) → n < 10 ^ count_from f k n
unfolding count_from
counted zero k n h = rw add-zero at h
counted (suc f) k n h = go (ltb n (10 ^ k)) refl (counted f (suc k) n (rw (suc-add, ← add-suc) h))
  where
    go : (b : Bool) → ltb n (10 ^ k) ≡ b → n < 10 ^ count_from f (suc k) n → n < 10 ^ cond b k (count_from f (suc k) n)
    go true e _ = ltb-true n (10 ^ k) e
    go false e l = l

pub digits_hold : (n : ℕ) → n < 10 ^ 16 → n < 10 ^ digits_of n
unfolding digits_of
digits_hold n h = counted 15 1 n h

from_below : (f k n : ℕ) → k ≤ count_from f k n
unfolding count_from
from_below zero k n = omega arith
from_below (suc f) k n = go (ltb n (10 ^ k)) (from_below f (suc k) n)
  where
    go : (b : Bool) → suc k ≤ count_from f (suc k) n → k ≤ cond b k (count_from f (suc k) n)
    go true h = omega arith
    go false h = omega arith

pub digits_some : (n : ℕ) → 1 ≤ digits_of n
unfolding digits_of
digits_some n = from_below 15 1 n

from_above : (f k n : ℕ) → count_from f k n ≤ k + f
unfolding count_from
from_above zero k n = omega arith
from_above (suc f) k n = go (ltb n (10 ^ k)) (from_above f (suc k) n)
  where
    go : (b : Bool) → count_from f (suc k) n ≤ suc k + f → cond b k (count_from f (suc k) n) ≤ k + suc f
    go true h = omega arith
    go false h = omega arith

pub digits_few : (n : ℕ) → digits_of n ≤ 16
unfolding digits_of
digits_few n = from_above 15 1 n

-- and its digits are the fewest with that: any power that n is below has at least so many
-- a power that n has not reached lies past one that it has
past : (n k j : ℕ) → 10 ^ k ≤ n → n < 10 ^ j → k ≤ j → suc k ≤ j
past n k j g l h = ⊎_elim (λ q. let l' : n < 10 ^ k = rw (← q) at l in absurd (omega arith)) (λ m. m) (eq-or-lt_of_le h)

least : (f k n j : ℕ) → k ≤ j → n < 10 ^ j → count_from f k n ≤ j
unfolding count_from
least zero k n j h l = h
least (suc f) k n j h l = go (ltb n (10 ^ k)) refl (λ g. least f (suc k) n j (past n k j g l h) l)
  where
    go : (b : Bool) → ltb n (10 ^ k) ≡ b → (10 ^ k ≤ n → count_from f (suc k) n ≤ j) → cond b k (count_from f (suc k) n) ≤ j
    go true e ih = h
    go false e ih = ih (ltb-false n (10 ^ k) e)

pub digits_least : (n j : ℕ) → 1 ≤ j → n < 10 ^ j → digits_of n ≤ j
unfolding digits_of
digits_least n j h l = least 15 1 n j h l

-- a larger number has no fewer digits
pub digits_rise : (m n : ℕ) → m ≤ n → n < 10 ^ 16 → digits_of m ≤ digits_of n
digits_rise m n h l = digits_least m (digits_of n) (digits_some n) (omega (arith, digits_hold n l))
