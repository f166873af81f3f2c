-- The least and the most of some numbers.
use Rattle.std.specs.Prelude.{◌≡◌, refl, ◌⊎◌, Bool, true, false, ℕ, ◌+◌, ◌-◌, ◌≤◌, ◌<◌, ℤ, pos}
use Rattle.std.proofs.Common.{⊎_elim, eq-or-lt_of_le, arith}
use Rattle.std.proofs.Math.Bool.{cond}
use Rattle.std.specs.Int.Signed.{le_z}
use Rattle.cells.specs.rule.Cell.{count_of}
use Rattle.cells.specs.Order.{le_self, le_join, le_else}
use Rattle.strides.specs.declared.Hull.{Hull}
use Rattle.strides.specs.declared.Block.{Block}
use Rattle.strides.specs.Stride.{all_rise, rise_le, count_within}
use Rattle.strides.specs.rule.Stride.{all_differ}

-- the least and the most of the first n, which are among them
pub record Hulled (f : ℕ → ℤ) (n : ℕ) (h : Hull) : Type 0 where
  pub low : (k : ℕ) → k < n → le_z h.least (f k) ≡ true
  pub high : (k : ℕ) → k < n → le_z (f k) h.most ≡ true
  pub least_at : ℕ
  pub least_below : least_at < n
  pub least_is : h.least ≡ f least_at
  pub most_at : ℕ
  pub most_below : most_at < n
  pub most_is : h.most ≡ f most_at

-- whether the first n differ, and their hull
pub record Blocked (f : ℕ → ℤ) (n : ℕ) (r : Block) : Type 0 where
  pub differ : r.differ ≡ all_differ f n
  pub hull : Hulled f n r.hull

-- a hull that takes in one number more
unfoldable pub hull_with : Hull → ℤ → Hull
hull_with h z = record {
  least = cond (le_z h.least z) h.least z;
  most = cond (le_z z h.most) h.most z;
}

abbrev pub hull_from : ℤ → ℤ → Hull
hull_from a b = record { least = a; most = b }

module _ (f : ℕ → ℤ) where
  below_one : (k : ℕ) → k < 1 → k ≡ 0
  below_one k h = omega arith

  pub hulled_one : Hulled f 1 (hull_from (f 0) (f 0))
  hulled_one = record {
    low = λ k h. rw (below_one k h) (le_self (f 0));
    high = λ k h. rw (below_one k h) (le_self (f 0));
    least_at = 0;
    least_below = omega arith;
    least_is = refl;
    most_at = 0;
    most_below = omega arith;
    most_is = refl;
  }

  -- every number below k + 1 is below k, or is k
  each : (k j : ℕ) → j < k + 1 → (j ≡ k) ⊎ (j < k)
  each k j h = let g : j ≤ k = omega arith in eq-or-lt_of_le g

  module _ (k : ℕ) (h : Hull) (u : Hulled f k h) where
    more_low : (b : Bool) → le_z h.least (f k) ≡ b → (j : ℕ) → j < k + 1 → le_z (cond b h.least (f k)) (f j) ≡ true
    more_low true e j l = ⊎_elim (λ q. rw q e) (λ m. u.low j m) (each k j l)
    more_low false e j l =
        ⊎_elim (λ q. rw q (le_self (f k))) (λ m. le_join (f k) h.least (f j) (le_else h.least (f k) e) (u.low j m))
        (each k j l)

    more_high : (b : Bool) → le_z (f k) h.most ≡ b → (j : ℕ) → j < k + 1 → le_z (f j) (cond b h.most (f k)) ≡ true
    more_high true e j l = ⊎_elim (λ q. rw q e) (λ m. u.high j m) (each k j l)
    more_high false e j l =
        ⊎_elim (λ q. rw q (le_self (f k))) (λ m. le_join (f j) h.most (f k) (u.high j m) (le_else (f k) h.most e))
        (each k j l)

    at_below : (b : Bool) (j : ℕ) → j < k → cond b j k < k + 1
    at_below true j l = omega arith
    at_below false j l = omega arith

    at_is : (b : Bool) (z : ℤ) (j : ℕ) → z ≡ f j → cond b z (f k) ≡ f (cond b j k)
    at_is true z j e = e
    at_is false z j e = refl

    pub hulled_more : Hulled f (k + 1) (hull_with h (f k))
    unfolding hull_with
    hulled_more = record {
      low = more_low (le_z h.least (f k)) refl;
      high = more_high (le_z (f k) h.most) refl;
      least_at = cond (le_z h.least (f k)) u.least_at k;
      least_below = at_below (le_z h.least (f k)) u.least_at u.least_below;
      least_is = at_is (le_z h.least (f k)) h.least u.least_at u.least_is;
      most_at = cond (le_z (f k) h.most) u.most_at k;
      most_below = at_below (le_z (f k) h.most) u.most_at u.most_below;
      most_is = at_is (le_z (f k) h.most) h.most u.most_at u.most_is;
    }

-- rising numbers: the first and the last
pub rise_hulled : (f : ℕ → ℤ) (n : ℕ) → all_rise f n ≡ true → 1 ≤ n → Hulled f n (hull_from (f 0) (f (n - 1)))
rise_hulled f n r h = record {
  low = λ k l. rise_le f n r k 0 (omega arith) l;
  high = λ k l. rise_le f n r (n - 1) k (omega arith) (omega arith);
  least_at = 0;
  least_below = h;
  least_is = refl;
  most_at = n - 1;
  most_below = omega arith;
  most_is = refl;
}

-- numbers whose least and most keep within limits are counts below them
pub counts_within : (f : ℕ → ℤ) (n m : ℕ) (h : Hull) → Hulled f n h → le_z (pos 0) h.least ≡ true → le_z h.most (pos m) ≡ true
    → (k : ℕ) → k < n → count_of (f k) < m + 1
counts_within f n m h u low high k l =
    count_within (f k) m (le_join (pos 0) h.least (f k) low (u.low k l)) (le_join (f k) h.most (pos m) (u.high k l) high)
