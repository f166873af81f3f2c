-- Theorems of specs/Exact.antt, kept here: a wrong definition is refused by them.
use Rattle.std.specs.Prelude.{◌≡◌, refl, Bool, true, false, cond, ℕ, suc, ◌*◌, ◌^◌, ◌≤◌, ◌<◌, ℤ, pos, negsuc, nat_abs, T, eqb, Float}
use Rattle.std.proofs.Common.{sym, ap, ◌∙◌, subst, true≢false, le_trans, mul-one, mul_assoc, mul_comm, mul_left_comm, mul-pos, zero-mul}
use Rattle.std.proofs.Common.{lt_irrefl, arith, eqb→eq, le→leb, lt→ltb, lit≤}
use Rattle.std.specs.Float.{nan, inf, fin, Format, binary64}
use Rattle.std.specs.Float.Ieee.{up, down, unlike, round, div, of_int, in_float, to_signed}
use Rattle.std.specs.Float.Ieee.Fits.{down_pos}
use Rattle.std.specs.Float.Ieee.Exact.{HasValue}
use Rattle.std.specs.Float.Ieee.Back.{round_whole, positive_back, negative_back}
use Rattle.std.specs.Float.Ieee.Scale.{round_same}
use Rattle.quotient.specs.rule.Value.{value_of}
use Rattle.quotient.specs.Limits.{Scaled, Power}
use Rattle.quotient.specs.Exact.{minus, power_exact}

-- what the machine asks of the two conversions
pub scaled_in : (n : ℤ) → Scaled n → T (in_float binary64 n)
unfolding in_float
scaled_in (pos n) h = le→leb n (2 ^ 53) (le_trans h (lit≤ tt))
scaled_in (negsuc n) h = lt→ltb n (2 ^ 53) (le_trans h (lit≤ tt))

-- EXACT: a scaled number as a float has the number's sign and size, and casts back to it
pub scaled_exact : (n : ℤ) → Scaled n → HasValue (of_int binary64 n) (minus n) (nat_abs n) 1
unfolding of_int
scaled_exact (pos n) h = round_whole binary64 false n (le_trans h (lit≤ tt))
scaled_exact (negsuc n) h = round_whole binary64 true (suc n) (le_trans h (lit≤ tt))

pub scaled_back : (n : ℤ) → Scaled n → to_signed 63 (of_int binary64 n) ≡ n
scaled_back (pos n) h = (positive_back binary64 63 n (scaled_in (pos n) h) (le_trans (suc_le h) (lit≤ tt))).1
  where
    suc_le : n ≤ 999999999999999 → suc n ≤ 1000000000000000
    suc_le h = omega arith
scaled_back (negsuc n) h = (negative_back binary64 63 n (scaled_in (negsuc n) h) (le_trans h (lit≤ tt))).1

-- NEAREST: a quotient of two whole numbers, the divisor above zero, is their fraction rounded once
crossed : (x y e d a b : ℕ) → x * 1 ≡ a * e → y * 1 ≡ b * d → x * d * b ≡ a * (y * e)
crossed x y e d a b p q =
    let x' : x ≡ a * e = sym (mul-one x) ∙ p in
    let y' : y ≡ b * d = sym (mul-one y) ∙ q in
    rw (x', y') (simp (mul_assoc, mul_comm, mul_left_comm))

no_zero : (m : ℕ) (e : ℤ) (b : ℕ) → m * up e * 1 ≡ b * down e → 0 < b → eqb m 0 ≡ false
no_zero m e b h g = go (eqb m 0) (eqb→eq m 0)
  where
    go : (t : Bool) → (T t → m ≡ 0) → t ≡ false
    go false z = refl
    go true z =
        absurd
        (lt_irrefl 0
        (subst (λ (x : ℕ). 0 < x) (sym h ∙ ap (λ (y : ℕ). y * up e * 1) (z tt) ∙ ap (λ (y : ℕ). y * 1) (zero-mul (up e)) ∙ zero-mul 1)
        (mul-pos g (down_pos e))))

div_at : (f : Format) (x y : Float) (s : Bool) (a b : ℕ) → HasValue x s a 1 → HasValue y false b 1 → 0 < b → div f x y ≡ round f s a b
unfolding div
div_at f nan y s a b v w h = absurd v
div_at f (inf t) y s a b v w h = absurd v
div_at f (fin t m e) nan s a b v w h = absurd w
div_at f (fin t m e) (inf u) s a b v w h = absurd w
div_at f (fin t m e) (fin true n d) s a b v w h = absurd (true≢false w.0)
div_at f (fin t m e) (fin false n d) s a b v w h =
    let q = round f (unlike t false) (m * up e * down d) (n * up d * down e) in
    ap (λ (z : Bool). cond z (cond (eqb m 0) nan (inf (unlike t false))) q) (no_zero n d b w.1 h)
    ∙ ap (λ (z : Bool). round f z (m * up e * down d) (n * up d * down e)) (same t ∙ v.0)
    ∙ round_same f s (m * up e * down d) (n * up d * down e) a b
    (mul-pos (above n d b w.1 h) (down_pos e)) h (crossed (m * up e) (n * up d) (down e) (down d) a b v.1 w.1)
  where
    same : (t : Bool) → unlike t false ≡ t
    same true = refl
    same false = refl

    above : (n : ℕ) (d : ℤ) (b : ℕ) → n * up d * 1 ≡ b * down d → 0 < b → 0 < n * up d
    above n d b p g = subst (λ (x : ℕ). 0 < x) (sym p ∙ mul-one (n * up d)) (mul-pos g (down_pos d))

pub value_nearest : (n : ℤ) (p : ℕ) → Scaled n → Power p → value_of n p ≡ round binary64 (minus n) (nat_abs n) p
unfolding value_of
value_nearest n p h k = div_at binary64 (of_int binary64 n) (of_int binary64 (pos p)) (minus n) (nat_abs n) p (scaled_exact n h)
    (power_exact p k) k.0

-- over 1, as for categories and truth values, the value is the number itself
pub value_whole : (n : ℤ) → Scaled n → value_of n 1 ≡ of_int binary64 n
unfolding of_int
value_whole (pos n) h = value_nearest (pos n) 1 h (lit≤ tt, lit≤ tt)
value_whole (negsuc n) h = value_nearest (negsuc n) 1 h (lit≤ tt, lit≤ tt)
