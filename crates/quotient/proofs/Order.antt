-- Theorems of specs/Order.antt, kept here: a wrong definition is refused by them.
use Rattle.std.specs.Prelude.{◌≡◌, refl, Bool, true, false, not, ℤ, pos, negsuc, nat_abs, T, ltb, Float}
use Rattle.std.proofs.Common.{sym, ap, ◌∙◌, true≢false, inl, inr, le_trans, le_refl, le_of_lt, le_antisymm, le_of_eq, eq-or-lt_of_le}
use Rattle.std.proofs.Common.{le_of_mul-le-mul_right, lt_of_mul-lt-mul_right, le-mul_of_pos_right, mul_assoc, mul_comm, mul_right_comm}
use Rattle.std.proofs.Common.{add-mul, zero-mul, mul-pos, mul-le-mul_right, mul-lt-mul_of_pos_right, arith, lt-ltb, le-ltb, ltb-true}
use Rattle.std.proofs.Common.{ltb-false, lit≤, pow_pos}
use Prim.Native.Nat.{ℕ, suc, ◌+◌, ◌*◌, ◌^◌, ◌≤◌, ◌<◌}
use Rattle.std.specs.Int.Signed.{lt_z}
use Rattle.std.proofs.Math.Dec.{leb-suc-suc}
use Rattle.std.specs.Float.{nan, inf, fin, binary64}
use Rattle.std.specs.Float.Ieee.{up, down, below, lt, is_nan}
use Rattle.std.specs.Float.Ieee.Fits.{round_is, down_pos}
use Rattle.std.specs.Float.Ieee.Exact.{HasValue, units_val}
use Rattle.std.specs.Float.Ieee.Order.{drop, kept}
use Rattle.quotient.specs.rule.Value.{value_of}
use Rattle.quotient.specs.Limits.{Scaled, Power}
use Rattle.quotient.specs.Exact.{minus}
use Rattle.quotient.proofs.Exact.{value_nearest}
use Rattle.quotient.specs.Order.{cells, cells_rise, near_cells, small_step, step, unit}

-- no overflow: at most 3 / 2 of the largest numerator
fits_in : (g c x t y : ℕ) → 0 < c → g * c * 2 ≤ x * 2 + t → x ≤ y → t * 4503599627370496 ≤ y → g ≤ y * 2
fits_in g c x t y C p q u = le_trans (le-mul_of_pos_right g C) (omega arith)

cells_in : (a c : ℕ) → a ≤ 999999999999999 → Power c → cells a c < 2 ^ 2098
cells_in a c h P =
    let y = 999999999999999 * unit in
    let x_le : a * unit ≤ y = mul-le-mul_right unit h in
    le_trans
    (suc_le (cells a c) (y * 2)
    (fits_in (cells a c) c (a * unit) (step a c) y P.0 (near_cells a c P.0).0 x_le
    (small_step (a * unit) c y P.0 (le_trans (mul-le-mul_right 4503599627370496 P.1) (lit≤ tt)) x_le)))
    (lit≤ tt)
  where
    suc_le : (g z : ℕ) → g ≤ z → suc g ≤ suc z
    suc_le g z l = omega arith

-- ---- the value of a scaled number: its sign, and its size in units
pub value_is : (n : ℤ) (p : ℕ) → Scaled n → Power p → HasValue (value_of n p) (minus n) (cells (nat_abs n) p) unit
value_is n p h P =
    let a = nat_abs n in
    rw (value_nearest n p h P, round_is binary64 (minus n) a p)
    (units_val binary64 (minus n) (kept 53 (a * unit) p) (drop 53 (a * unit) p) (cells_in a p h P))

-- ---- the order of two floats, by fractions of one denominator that they equal
same_test : (a b x y c k : ℕ) → 0 < c → 0 < k → x * c ≡ a * k → y * c ≡ b * k → ltb x y ≡ ltb a b
same_test a b x y c k C K p q = go (ltb a b) refl
  where
    go : (t : Bool) → ltb a b ≡ t → ltb x y ≡ t
    go true e = lt-ltb x y (lt_of_mul-lt-mul_right c (rw (p, q) (mul-lt-mul_of_pos_right (ltb-true a b e) K)))
    go false e =
        let l : b * k ≤ a * k = mul-le-mul_right k (ltb-false a b e) in
        le-ltb x y (le_of_mul-le-mul_right (rw (p, q) l) C)

lt_of_values : (x y : Float) (s t : Bool) (a b c : ℕ) → 0 < c → HasValue x s a c → HasValue y t b c → lt x y ≡ below s a t b
unfolding lt
lt_of_values nan y s t a b c C p q = absurd p
lt_of_values (inf u) y s t a b c C p q = absurd p
lt_of_values (fin u m e) nan s t a b c C p q = absurd q
lt_of_values (fin u m e) (inf v) s t a b c C p q = absurd q
lt_of_values (fin u m e) (fin v n d) s t a b c C p q =
    let k = down e * down d in
    let x = m * up e * down d in
    let y = n * up d * down e in
    rw (p.0, q.0)
    (go s t x y k (mul-pos (down_pos e) (down_pos d))
    (mul_right_comm (m * up e) (down d) c ∙ ap (λ (z : ℕ). z * down d) p.1 ∙ mul_assoc a (down e) (down d))
    (mul_right_comm (n * up d) (down e) c ∙ ap (λ (z : ℕ). z * down e) q.1 ∙ mul_assoc b (down d) (down e)
    ∙ ap (λ (z : ℕ). b * z) (mul_comm (down d) (down e))))
  where
    go : (s t : Bool) (x y k : ℕ) → 0 < k → x * c ≡ a * k → y * c ≡ b * k → below s x t y ≡ below s a t b
    go false false x y k K p q = same_test a b x y c k C K p q
    go false true x y k K p q = refl
    go true false x y k K p q =
        same_test 0 (a + b) 0 (x + y) c k C K (zero-mul c ∙ sym (zero-mul k))
        (add-mul x y c ∙ ap (λ (z : ℕ). z + y * c) p ∙ ap (λ (z : ℕ). a * k + z) q ∙ sym (add-mul a b k))
    go true true x y k K p q = same_test b a y x c k C K q p

-- ---- THE ORDER
cells_order : (a b p : ℕ) → a ≤ 999999999999999 → b ≤ 999999999999999 → Power p → ltb (cells a p) (cells b p) ≡ ltb a b
cells_order a b p h g P = go (ltb a b) refl
  where
    go : (t : Bool) → ltb a b ≡ t → ltb (cells a p) (cells b p) ≡ t
    go true e = lt-ltb (cells a p) (cells b p) (cells_rise a b p (ltb-true a b e) g P)
    go false e =
        elim (eq-or-lt_of_le (ltb-false a b e)) [
          | inl q ↦ le-ltb (cells a p) (cells b p) (le_of_eq (ap (λ (x : ℕ). cells x p) q))
          | inr l ↦ le-ltb (cells a p) (cells b p) (le_of_lt (cells_rise b a p l h P))
        ]

-- the floats of two scaled numbers over one power of ten are in the order of the numbers
pub value_order : (n m : ℤ) (p : ℕ) → Scaled n → Scaled m → Power p → lt (value_of n p) (value_of m p) ≡ lt_z n m
value_order n m p h g P =
    lt_of_values (value_of n p) (value_of m p) (minus n) (minus m) (cells (nat_abs n) p) (cells (nat_abs m) p) unit (pow_pos 1074)
    (value_is n p h P) (value_is m p g P)
    ∙ go n m h g
  where
    go : (n m : ℤ) → Scaled n → Scaled m → below (minus n) (cells (nat_abs n) p) (minus m) (cells (nat_abs m) p) ≡ lt_z n m
    go (pos a) (pos b) h g = cells_order a b p h g P
    go (pos a) (negsuc b) h g = refl
    go (negsuc a) (pos b) h g =
        let z : cells 0 p < cells (suc a) p = cells_rise 0 (suc a) p (omega arith) h P in
        lt-ltb 0 (cells (suc a) p + cells b p) (above (cells 0 p) (cells (suc a) p) (cells b p) z)
      where
        above : (x y z : ℕ) → x < y → 0 < y + z
        above x y z l = omega arith
    go (negsuc a) (negsuc b) h g = cells_order (suc b) (suc a) p g h P ∙ leb-suc-suc (suc b) a

-- ONE TO ONE: a float is the value of one scaled number only
pub value_once : (n m : ℤ) (p : ℕ) → Scaled n → Scaled m → Power p → value_of n p ≡ value_of m p → n ≡ m
value_once n m p h g P e =
    even n m (sym (value_order n m p h g P) ∙ ap (λ (x : Float). lt (value_of n p) x) (sym e) ∙ value_order n n p h h P ∙ itself n)
    (sym (value_order m n p g h P) ∙ ap (λ (x : Float). lt (value_of m p) x) e ∙ value_order m m p g g P ∙ itself m)
  where
    itself : (n : ℤ) → lt_z n n ≡ false
    itself (pos a) = le-ltb a a (le_refl a)
    itself (negsuc a) = le-ltb a a (le_refl a)

    even : (n m : ℤ) → lt_z n m ≡ false → lt_z m n ≡ false → n ≡ m
    even (pos a) (pos b) u v = ap pos (le_antisymm (ltb-false b a v) (ltb-false a b u))
    even (pos a) (negsuc b) u v = absurd (true≢false v)
    even (negsuc a) (pos b) u v = absurd (true≢false u)
    even (negsuc a) (negsuc b) u v = ap negsuc (le_antisymm (ltb-false b a u) (ltb-false a b v))

-- ---- THE BITS: a value is finite, so its pattern is defined, has 64 bits, and reads back as the value
pub value_real : (n : ℤ) (p : ℕ) → Scaled n → Power p → T (not (is_nan (value_of n p)))
unfolding is_nan
value_real n p h P = go (value_of n p) (value_is n p h P)
  where
    go : (x : Float) → HasValue x (minus n) (cells (nat_abs n) p) unit → T (not (is_nan x))
    go nan v = v
    go (inf t) v = tt
    go (fin t m e) v = tt
