-- Of two scaled numbers over one power of ten the smaller has the smaller float: no two of at most 15 digits round to one.
-- `grid` is a rounded fraction in units of the smallest float, 2 ^ -1074. It misses the fraction by half a step at most, and a step is at
-- most 2 ^ -52 of the fraction, while two fractions n / p and m / p differ by 1 / p at least. Assumes nothing.
use Rattle.std.specs.Prelude.{◌≡◌, refl, not, ℤ, pos, T, eqb}
use Rattle.std.proofs.Common.{sym, ap, ◌∙◌, subst, le_trans, le_refl, le_of_lt, le_of_eq, lt_of_not-le, le_of_mul-le-mul_right}
use Rattle.std.proofs.Common.{le-div_iff_mul-le, mod-lt, mul-one, one-mul, suc-mul, mul_assoc, mul_comm, mul_left_comm, mul_right_comm}
use Rattle.std.proofs.Common.{add-mul, mul-pos, mul-le-mul_right, div-add-mod', arith, leb→le, eqb→eq, lit≤, pow-add, pow_pos}
use Prim.Native.Nat.{ℕ, zero, suc, ◌+◌, ◌*◌, ◌/◌, ◌%◌, ◌^◌, ◌≤◌, ◌<◌, compare, Ordering}
use Rattle.std.proofs.Math.Dec.{is_le, compare_is_eq, nleb→lt, eqb_refl}
use Rattle.std.proofs.Math.Arith.{lt_of_le-ne}
use Rattle.std.specs.Float.{binary64}
use Rattle.std.specs.Float.Ieee.{nearest, of_int, fits}
use Rattle.std.specs.Float.Ieee.Digits.{size_reaches}
use Rattle.std.specs.Float.Ieee.Fits.{div-fits}
use Rattle.std.specs.Float.Ieee.Nearest.{closest}
use Rattle.std.specs.Float.Ieee.Order.{drop, kept}
use Rattle.std.specs.Float.Ieee.Scale.{grid}
use Rattle.quotient.specs.rule.Value.{value_of}
use Rattle.quotient.specs.Limits.{Power}

-- ---- the nearest whole number is within a half
abbrev Cmp : Ordering → ℕ → ℕ → Type 0
Cmp Ordering.lt a b = a < b
Cmp Ordering.eq a b = a ≡ b
Cmp Ordering.gt a b = b < a

compared : (a b : ℕ) → Cmp (compare a b) a b
compared a b = go (compare a b) (leb→le a b) (nleb→lt a b) (eqb→eq a b) (λ (e : a ≡ b). subst (λ (x : ℕ). T (eqb a x)) e (eqb_refl a))
  where
    go : (o : Ordering) → (T (is_le o) → a ≤ b) → (T (not (is_le o)) → b < a) → (T (compare_is_eq o) → a ≡ b)
        → (a ≡ b → T (compare_is_eq o)) → Cmp o a b
    go Ordering.lt h k e n = lt_of_le-ne (h tt) n
    go Ordering.eq h k e n = e tt
    go Ordering.gt h k e n = k tt

abbrev Near : ℕ → ℕ → ℕ → Type 0
Near x n u = (x * 2 ≤ n * 2 + u) × (n * 2 ≤ x * 2 + u)

near_at : (w r u : ℕ) (o : Ordering) → Cmp o (r * 2) u → r < u → Near (nearest w o * u) (w * u + r) u
near_at w r u Ordering.lt h l = (omega arith, omega arith)
near_at w r u Ordering.eq h l = go (w % 2) (omega arith)
  where
    go : (t : ℕ) → t < 2 → Near ((w + t) * u) (w * u + r) u
    go zero g = (omega arith, omega arith)
    go (suc zero) g = rw (add-mul w 1 u, one-mul u) (omega arith, omega arith)
    go (suc (suc t)) g = absurd (omega arith)
near_at w r u Ordering.gt h l = rw (suc-mul w u) (omega arith, omega arith)

near : (n u : ℕ) → 0 < u → Near (closest n u * u) n u
near n u h =
    subst (λ (x : ℕ). Near (closest n u * u) x u) (div-add-mod' n u)
    (near_at (n / u) (n % u) u (compare (n % u * 2) u) (compared (n % u * 2) u) (mod-lt n h))

-- ---- 4503599627370496 is 2 ^ 52
-- a step is small beside every y that is no less than the fraction and than 2 ^ 52 steps of the finest kind
pub small_step : (n c y : ℕ) → 0 < c → c * 4503599627370496 ≤ y → n ≤ y → c * 2 ^ drop 53 n c * 4503599627370496 ≤ y
small_step n c y C h g = go (drop 53 n c) refl
  where
    moved : (x : ℕ) → c * x * 4503599627370496 ≡ 4503599627370496 * x * c
    moved x = simp (mul_assoc, mul_comm, mul_left_comm)

    go : (k : ℕ) → drop 53 n c ≡ k → c * 2 ^ k * 4503599627370496 ≤ y
    go zero e = rw (mul-one c) h
    go (suc k) e =
        let a : 2 ^ (52 + suc k) * c ≤ n = (le-div_iff_mul-le C).0 (size_reaches (n / c) (52 + suc k) (omega arith)) in
        le_trans (le_of_eq (moved (2 ^ suc k) ∙ ap (λ (x : ℕ). x * c) (sym (pow-add 2 52 (suc k))))) (le_trans a g)

-- ---- the rounded fraction grows with the number
abbrev pub unit : ℕ
unit = 2 ^ 1074

abbrev pub cells : ℕ → ℕ → ℕ
cells a c = grid binary64 a c

abbrev pub step : ℕ → ℕ → ℕ
step a c = c * 2 ^ drop 53 (a * unit) c

pub near_cells : (a c : ℕ) → 0 < c → Near (cells a c * c) (a * unit) (step a c)
near_cells a c C =
    let k = drop 53 (a * unit) c in
    subst (λ (x : ℕ). Near x (a * unit) (step a c)) (regroup (kept 53 (a * unit) c) (2 ^ k))
    (near (a * unit) (step a c) (mul-pos C (pow_pos k)))
  where
    regroup : (q x : ℕ) → q * (c * x) ≡ q * x * c
    regroup q x = simp (mul_assoc, mul_comm, mul_left_comm)

far : (a b : ℕ) → a < b → a ≤ 999999999999999 → b * 9007199254740990 ≤ a * 9007199254740992 → ⊥
far a b l h g = omega arith

-- 9007199254740990 and 9007199254740992 are 2 ^ 53 - 2 and 2 ^ 53
-- with x and y for the two fractions' numerators, s and t for their steps, g and k for what they round to
apart : (x y s t g k : ℕ) → g * 2 ≤ x * 2 + s → y * 2 ≤ k * 2 + t → s * 4503599627370496 ≤ y → t * 4503599627370496 ≤ y → k ≤ g
    → y * 9007199254740990 ≤ x * 9007199254740992
apart x y s t g k p q u v h = omega arith

pub cells_rise : (a b c : ℕ) → a < b → b ≤ 999999999999999 → Power c → cells a c < cells b c
cells_rise a b c l h P = lt_of_not-le (λ (g : cells b c ≤ cells a c). far a b l (omega arith) (shrunk (crossed g)))
  where
    big : c * 4503599627370496 ≤ b * unit
    big = let one : 1 ≤ b = omega arith in le_trans (mul-le-mul_right 4503599627370496 P.1)
        (le_trans (lit≤ tt) (mul-le-mul_right unit one))

    crossed : cells b c ≤ cells a c → b * unit * 9007199254740990 ≤ a * unit * 9007199254740992
    crossed g =
        apart (a * unit) (b * unit) (step a c) (step b c) (cells a c * c) (cells b c * c) (near_cells a c P.0).0
        (near_cells b c P.0).1
        (small_step (a * unit) c (b * unit) P.0 big (mul-le-mul_right unit (le_of_lt l)))
        (small_step (b * unit) c (b * unit) P.0 big (le_refl (b * unit)))
        (mul-le-mul_right c g)

    shrunk : b * unit * 9007199254740990 ≤ a * unit * 9007199254740992 → b * 9007199254740990 ≤ a * 9007199254740992
    shrunk g =
        le_of_mul-le-mul_right
        (le_trans (le_of_eq (mul_right_comm b 9007199254740990 unit)) (le_trans g (le_of_eq (mul_right_comm a unit 9007199254740992))))
        (pow_pos 1074)

pub value_fits : (n : ℤ) (p : ℕ) → T (fits binary64 (value_of n p))
unfolding value_of
value_fits n p = div-fits binary64 (of_int binary64 n) (of_int binary64 (pos p))
