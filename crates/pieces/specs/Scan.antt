-- Sixteen bytes at once: which of them are below 32, as bits; and minima of bytes that stand sixteen apart.
use Rattle.std.specs.Prelude.{◌≡◌, Bool, ◌||◌, List, length, get_or}
use Rattle.std.proofs.Math.Path.{refl}
use Rattle.std.proofs.Math.Bool.{true, false, cond}
use Rattle.std.proofs.Math.Logic.{⊎_elim}
use Prim.Native.Nat.{ℕ, zero, suc, ◌+◌, ◌-◌, ◌*◌, ◌/◌, ◌%◌, ◌^◌, ◌≤◌, ◌<◌}
use Rattle.std.proofs.Math.Nat.{div-add-mod}
use Rattle.std.proofs.Common.{mod-lt, le-ltb, lit<, pow_mono}
use native.Mathlib.Omega.{arith}
use Rattle.std.specs.Int.Count.{count_trailing_zeros}
use Rattle.below.specs.Below.{lt_or_le, holds_not}
use Rattle.lows.specs.rule.Lows.{low_at}
use Rattle.lows.specs.Lows.{Clear}

-- the n bytes from i on as bits, the first the lowest: 1 where a byte is below 32
unfoldable pub low_bits : List ℕ → ℕ → ℕ → ℕ
low_bits d i zero = 0
low_bits d i (suc n) = cond (low_at d i) 1 0 + 2 * low_bits d (i + 1) n

-- no byte of n from i on, sixteen apart, is less than r
pub record Under (d : List ℕ) (i n r : ℕ) : Type 0 where
  pub least : (q : ℕ) → q < n → r ≤ get_or d (i + 16 * q) 0

-- ---- stretches without a byte below 32: two are one
pub clear_join : (d : List ℕ) (a b e : ℕ) → Clear d a b → Clear d b e → Clear d a e
clear_join d a b e x y = record {
  on = omega (arith, x.on, y.on);
  within = y.within;
  plain = λ j h l. ⊎_elim (λ m. x.plain j h m) (λ m. y.plain j m l) (lt_or_le j b);
}

pub neither_left : (a b : Bool) → (a || b) ≡ false → a ≡ false
neither_left true b e = e
neither_left false b e = refl

pub neither_right : (a b : Bool) → (a || b) ≡ false → b ≡ false
neither_right true b e = absurd (holds_not refl e)
neither_right false b e = e

-- ---- bits
bit_few : (q : Bool) → cond q 1 0 ≤ 1
bit_few true = omega arith
bit_few false = omega arith

pub bits_none : (d : List ℕ) (i : ℕ) → low_bits d i 0 ≡ 0
unfolding low_bits
bits_none d i = refl

-- two bits more
pub bits_two : (d : List ℕ) (i n : ℕ)
    → low_bits d i (suc (suc n)) ≡ cond (low_at d i) 1 0 + 2 * (cond (low_at d (i + 1)) 1 0 + 2 * low_bits d (i + 1 + 1) n)
unfolding low_bits
bits_two d i n = refl

bits_pow : (d : List ℕ) (n i : ℕ) → low_bits d i n < 2 ^ n
unfolding low_bits
bits_pow d zero i = omega arith
bits_pow d (suc n) i = let h = bits_pow d n (i + 1) in let b = bit_few (low_at d i) in omega arith

pub bits_few : (d : List ℕ) (i n : ℕ) → n ≤ 16 → low_bits d i n < 65536
bits_few d i n h = let p = bits_pow d n i in let q = pow_mono h in omega (arith, p, q)

module _ (d : List ℕ) where
  -- no bit: no byte
  bits_off : (n i : ℕ) → low_bits d i n ≡ 0 → (j : ℕ) → i ≤ j → j < i + n → low_at d j ≡ false
  unfolding low_bits
  bits_off zero i e j a b = absurd (omega arith)
  bits_off (suc n) i e j a b = go (low_at d i) refl e (λ z l. bits_off n (i + 1) z j l (omega arith))
    where
      go : (q : Bool) → low_at d i ≡ q → cond q 1 0 + 2 * low_bits d (i + 1) n ≡ 0
          → (low_bits d (i + 1) n ≡ 0 → i + 1 ≤ j → low_at d j ≡ false) → low_at d j ≡ false
      go true f e g = absurd (omega arith)
      go false f e g = ⊎_elim (λ l. let z : j ≡ i = omega arith in rw z f) (λ l. g (omega arith) l) (lt_or_le j (i + 1))

  -- no bit below the lowest: no byte before it
  bits_lowest : (k n i : ℕ) → n ≤ k → (low_bits d i n ≡ 0 → ⊥)
      → (count_trailing_zeros k (low_bits d i n) ≤ n)
      × ((j : ℕ) → i ≤ j → j < i + count_trailing_zeros k (low_bits d i n) → low_at d j ≡ false)
  unfolding low_bits count_trailing_zeros
  bits_lowest k zero i h e = absurd (e refl)
  bits_lowest zero (suc n) i h e = absurd (omega arith)
  bits_lowest (suc k) (suc n) i h e = go (low_at d i) refl e (λ z. bits_lowest k n (i + 1) (omega arith) z)
    where
      go : (q : Bool) → low_at d i ≡ q → (cond q 1 0 + 2 * low_bits d (i + 1) n ≡ 0 → ⊥)
          → ((low_bits d (i + 1) n ≡ 0 → ⊥) → (count_trailing_zeros k (low_bits d (i + 1) n) ≤ n)
          × ((j : ℕ) → i + 1 ≤ j → j < i + 1 + count_trailing_zeros k (low_bits d (i + 1) n) → low_at d j ≡ false))
          → (count_trailing_zeros (suc k) (cond q 1 0 + 2 * low_bits d (i + 1) n) ≤ suc n)
          × ((j : ℕ) → i ≤ j → j < i + count_trailing_zeros (suc k) (cond q 1 0 + 2 * low_bits d (i + 1) n) → low_at d j ≡ false)
      go true f e g =
          let o : (1 + 2 * low_bits d (i + 1) n) % 2 ≡ 1 = omega arith in
          rw o (omega arith, λ j a b. absurd (omega arith))
      go false f e g =
          let o : (0 + 2 * low_bits d (i + 1) n) % 2 ≡ 0 = omega arith in
          let v : (0 + 2 * low_bits d (i + 1) n) / 2 ≡ low_bits d (i + 1) n = omega arith in
          let r = g (λ z. e (omega arith)) in
          rw (o, v) (
            omega (arith, r.0),
            λ j a b. ⊎_elim (λ l. let z : j ≡ i = omega arith in rw z f) (λ l. r.1 j l (omega arith)) (lt_or_le j (i + 1)),
          )

  module _ (i : ℕ) (h : i + 16 ≤ length d) where
    pub bits_plain : low_bits d i 16 ≡ 0 → Clear d i (i + 16)
    bits_plain e = record { on = omega arith; within = h; plain = bits_off 16 i e }

    pub bits_first : (low_bits d i 16 ≡ 0 → ⊥) → Clear d i (i + count_trailing_zeros 32 (low_bits d i 16))
    bits_first e =
        let r = bits_lowest 32 16 i (omega arith) e in
        record { on = omega arith; within = omega (arith, r.0); plain = r.1 }

-- ---- minima
module _ (d : List ℕ) where
  pub under_less : (i n r s : ℕ) → s ≤ r → Under d i n r → Under d i n s
  under_less i n r s h u = record { least = λ q l. omega (arith, u.least q l) }

  pub under_four : (i r : ℕ) → r ≤ get_or d i 0 → r ≤ get_or d (i + 16) 0 → r ≤ get_or d (i + 32) 0 → r ≤ get_or d (i + 48) 0
      → Under d i 4 r
  under_four i r a b c e = record { least = go }
    where
      go : (q : ℕ) → q < 4 → r ≤ get_or d (i + 16 * q) 0
      go zero l = let z : i + 16 * 0 ≡ i = omega arith in rw z a
      go (suc zero) l = b
      go (suc (suc zero)) l = c
      go (suc (suc (suc zero))) l = e
      go (suc (suc (suc (suc q)))) l = absurd (omega arith)

  under_join : (i n m r : ℕ) → Under d i n r → Under d (i + 16 * n) m r → Under d i (n + m) r
  under_join i n m r u v = record {
    least = λ q l. ⊎_elim (λ a. u.least q a)
        (λ a. let e : i + 16 * n + 16 * (q - n) ≡ i + 16 * q = omega arith in rw e at (v.least (q - n) (omega arith))) (lt_or_le q n);
  }

  pub under_sixteen : (i r : ℕ) → Under d i 4 r → Under d (i + 64) 4 r → Under d (i + 128) 4 r → Under d (i + 192) 4 r → Under d i 16 r
  under_sixteen i r a b c e =
      let z : i + 192 ≡ i + 128 + 64 = omega arith in
      under_join i 8 8 r (under_join i 4 4 r a b) (under_join (i + 128) 4 4 r c (rw z at e))

  -- none is below 32 at the first k of sixteen places, nor at n places from each on, sixteen apart
  pub record Minima (i n k : ℕ) : Type 0 where
    pub none : (j : ℕ) → j < k → (q : ℕ) → q < n → low_at d (i + j + 16 * q) ≡ false

  pub minima_none : (i n : ℕ) → Minima i n 0
  minima_none i n = record { none = λ j h. absurd (omega arith) }

  pub minima_more : (i n k r : ℕ) → Minima i n k → Under d (i + k) n r → 32 ≤ r → Minima i n (k + 1)
  minima_more i n k r m u h = record {
    none = λ j l q g. ⊎_elim (λ a. m.none j a q g)
        (λ a. let z : j ≡ k = omega arith in rw z (le-ltb (get_or d (i + k + 16 * q) 0) 32 (omega (arith, u.least q g)))) (lt_or_le j k);
  }

  -- all sixteen: none in the whole stretch
  pub minima_clear : (i n : ℕ) → Minima i n 16 → i + 16 * n ≤ length d → Clear d i (i + 16 * n)
  minima_clear i n m h = record {
    on = omega arith;
    within = h;
    plain = λ j a b.
        let g : 16 * ((j - i) / 16) + (j - i) % 16 ≡ j - i = div-add-mod (j - i) 16 in
        let l : (j - i) % 16 < 16 = mod-lt (j - i) (lit< tt) in
        let e : i + (j - i) % 16 + 16 * ((j - i) / 16) ≡ j = omega arith in
        rw e at (m.none ((j - i) % 16) l ((j - i) / 16) (omega arith));
  }
