-- A number written with no digit before its point lies nearer zero than 1: its size is below ten to the count of its decimals.
use mathlib.Core.Path.{◌≡◌, refl}
use mathlib.Core.Logic.{◌⊎◌, inl, inr, ⊎_elim}
use mathlib.Core.Bool.{Bool, true, false, cond, ◌&&◌, ◌||◌}
use mathlib.Core.List.{List, [], ◌∷◌}
use Prim.Native.Nat.{ℕ, zero, suc, ◌+◌, ◌-◌, ◌*◌, ◌^◌, ◌≤◌, ◌<◌}
use native.Mathlib.Nat.{pow-suc, pow-zero, mul-one, one-mul, mul_comm, mul_assoc, mul-le-mul_right, le_trans, lt_of_le_of_lt}
use native.Mathlib.Omega.{arith}
use lib.Dec.{eqb, ltb}
use lib.ListN.{length}
use borrow.Author.Tests.{ltb-true, eqb-true}
use Rattle.below.specs.Below.{either_true, holds_not}
use Rattle.cells.specs.rule.Cell.{number_of, signed_of}
use Rattle.scan.specs.rule.Text.{Text, stop, sign, text}
use Rattle.scan.specs.rule.Number.{is_digit, is_value, run_of, run_bytes, decimal_of}
use Rattle.scan.specs.Number.{capped, digits_from}
use Rattle.scan.proofs.Orders.{digit_bounds}
use Rattle.tokens.specs.declared.Value.{Value}
use Rattle.tokens.specs.Token.{mark_of, value_at}
use Rattle.values.specs.Value.{point_of, points_of}

-- a digit more, a power more
step : (n d k : ℕ) → d ≤ 9 → (n * 10 + d + 1) * 10 ^ k ≤ (n + 1) * 10 ^ suc k
step n d k h =
    let e : (n + 1) * 10 ^ suc k ≡ ((n + 1) * 10) * 10 ^ k = rw (pow-suc, mul_comm (10 ^ k) 10, ← mul_assoc) in
    let l : n * 10 + d + 1 ≤ (n + 1) * 10 = omega arith in
    rw e (mul-le-mul_right (10 ^ k) l)

-- what digits say after n
digits_below : (t : Text) (n : ℕ) → decimal_of n (run_bytes is_digit t) + 1 ≤ (n + 1) * 10 ^ length (run_bytes is_digit t)
unfolding run_bytes decimal_of
digits_below (stop p) n = rw (pow-zero, mul-one) (omega arith)
digits_below (sign p b t) n = by (is_digit b) refl (digits_below t (n * 10 + (b - 48))) where
  by : (x : Bool) → is_digit b ≡ x
      → decimal_of (n * 10 + (b - 48)) (run_bytes is_digit t) + 1 ≤ (n * 10 + (b - 48) + 1) * 10 ^ length (run_bytes is_digit t)
      → decimal_of n (cond x (b ∷ run_bytes is_digit t) []) + 1 ≤ (n + 1) * 10 ^ length (cond x (b ∷ run_bytes is_digit t) [])
  by true e ih = le_trans ih (step n (b - 48) (length (run_bytes is_digit t)) (omega (arith, (digit_bounds b e).1)))
  by false e ih = rw (pow-zero, mul-one) (omega arith)

cap_low : (n : ℕ) → capped n ≤ n
cap_low n = by (ltb 1000000000000000 n) refl where
  by : (x : Bool) → ltb 1000000000000000 n ≡ x → cond x 1000000000000000 n ≤ n
  by true e = omega (arith, ltb-true 1000000000000000 n e)
  by false e = omega arith

none_of : (s : List ℕ) → length s ≡ 0 → s ≡ []
none_of [] e = refl
none_of (b ∷ s) e = absurd (omega arith)

-- NEARER ZERO THAN 1
pub value_near : (d : List ℕ) (at : ℕ) → (value_at d at).whole ≡ 0 → (value_at d at).size < 10 ^ (value_at d at).decimals
unfolding value_at digits_from decimal_of
value_near d at e =
    let m = (mark_of at 45 (text d at)).next in
    let k = run_of is_digit m (text d m) in
    let o = (mark_of k 46 (text d k)).next in
    by (run_bytes is_digit (text d m)) (text d o) (none_of (run_bytes is_digit (text d m)) (omega (arith, e)))
  where
    by : (w : List ℕ) (t : Text) → w ≡ [] → capped (decimal_of (capped (decimal_of 0 w)) (run_bytes is_digit t))
        < 10 ^ (0 + length (run_bytes is_digit t))
    by w t q =
        let k = length (run_bytes is_digit t) in
        let e : 0 + k ≡ k = omega arith in
        let h : decimal_of 0 (run_bytes is_digit t) + 1 ≤ 10 ^ k = rw one-mul at (digits_below t 0) in
        rw q (rw e (lt_of_le_of_lt (cap_low (decimal_of 0 (run_bytes is_digit t))) (omega (arith, h))))

-- a value in form has a digit
formed_some : (x : Bool) (w f : ℕ) → (x && (ltb 0 w || ltb 0 f)) ≡ true → (0 < w) ⊎ (0 < f)
formed_some true w f e = ⊎_elim (λ x. inl (ltb-true 0 w x)) (λ x. inr (ltb-true 0 f x)) (either_true (ltb 0 w) (ltb 0 f) e)
formed_some false w f e = holds_not e refl

pub value_some : (d : List ℕ) (at : ℕ) → (value_at d at).formed ≡ true → (0 < (value_at d at).whole) ⊎ (0 < (value_at d at).decimals)
unfolding value_at
value_some d at e =
    let sign = mark_of at 45 (text d at) in
    let whole = digits_from 0 0 sign.next (text d sign.next) in
    let dot = mark_of whole.next 46 (text d whole.next) in
    let rest = digits_from whole.size 0 dot.next (text d dot.next) in
    let end = run_of is_value rest.next (text d rest.next) in
    formed_some (eqb end rest.next) whole.count rest.count e

-- ---- the point's code
pub code_low : (v : Value) → point_of v ≤ 2
code_low v = by v.point (eqb v.whole 0) where
  by : (p q : Bool) → cond p (cond q 2 1) 0 ≤ 2
  by true true = omega arith
  by true false = omega arith
  by false q = omega arith

-- code 2: a point, and no digit before it
pub code_bare : (v : Value) → point_of v ≡ 2 → v.whole ≡ 0
code_bare v = by v.point (eqb v.whole 0) refl where
  by : (p q : Bool) → eqb v.whole 0 ≡ q → ◌≡◌ {A = ℕ} (cond p (cond q 2 1) 0) 2 → v.whole ≡ 0
  by true true f e = eqb-true v.whole 0 f
  by true false f e = absurd (omega arith)
  by false q f e = absurd (omega arith)

pub code_none : (v : Value) → v.point ≡ false → point_of v ≡ 0
code_none v e = rw e

pub code_some : (v : Value) → v.point ≡ true → 1 ≤ point_of v
code_some v e = rw e (by (eqb v.whole 0)) where
  by : (q : Bool) → 1 ≤ cond q 2 1
  by true = omega arith
  by false = omega arith

-- codes together
pub codes_low : (a b : ℕ) → a ≤ 2 → points_of a b ≤ 2
codes_low a b h = by (eqb a b) where
  by : (q : Bool) → cond q a 1 ≤ 2
  by true = h
  by false = omega arith

pub codes_same : (a b : ℕ) → points_of a b ≡ 2 → (a ≡ 2) × (b ≡ 2)
codes_same a b = by (eqb a b) refl where
  by : (q : Bool) → eqb a b ≡ q → cond q a 1 ≡ 2 → (a ≡ 2) × (b ≡ 2)
  by true f e = let s = eqb-true a b f in (e, omega arith)
  by false f e = absurd (omega arith)

pub codes_some : (a b : ℕ) → 1 ≤ b → 1 ≤ points_of a b
codes_some a b h = by (eqb a b) refl where
  by : (q : Bool) → eqb a b ≡ q → 1 ≤ cond q a 1
  by true f = omega (arith, eqb-true a b f)
  by false f = omega arith

pub codes_first : (a b : ℕ) → 1 ≤ a → 1 ≤ points_of a b
codes_first a b h = by (eqb a b) where
  by : (q : Bool) → 1 ≤ cond q a 1
  by true = h
  by false = omega arith

-- the size of a number with this sign and size
pub size_number : (m : Bool) (n : ℕ) → (signed_of (number_of m n)).size ≡ n
unfolding signed_of number_of
size_number false n = refl
size_number true zero = refl
size_number true (suc n) = refl
