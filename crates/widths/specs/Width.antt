-- What follows from rule/Width.antt, and what the code keeps.
use Rattle.std.specs.Prelude.{◌≡◌, Bool, ℕ, zero, suc, ◌+◌, ◌-◌, ◌*◌, ◌/◌, ◌^◌, ◌≤◌, ◌<◌, max, min, ℤ, pos, negsuc}
use Rattle.std.proofs.Math.Path.{refl}
use Rattle.std.proofs.Common.{sym, ap, ◌∙◌, le-div_iff_mul-le, div-mul-le_self, div-le_self, le_trans, lt_of_le_of_lt, div-lt_iff_lt-mul}
use Rattle.std.proofs.Common.{le_antisymm, lit<, pow-add}
use Rattle.std.proofs.Math.Bool.{true, false, cond}
use Rattle.std.proofs.Math.Nat.{one-le-pow, pow-le-pow_right, div-eq_of_lt}
use native.Mathlib.Omega.{arith}
use borrow.Author.Tests.{leb-true, le-leb, eq-eqb, ne_eqb, eqb-true, eqb-false}
use Rattle.std.proofs.Math.Dec.{eqb}
use Rattle.std.specs.Int.Signed.{le_z}
use Rattle.ascii.specs.rule.Tens.{digits_of}
use Rattle.ascii.specs.Tens.{digits_rise, digits_least, digits_some, digits_hold}
use Rattle.below.specs.Below.{and_left, and_right, and_true, holds_not}
use Rattle.cells.specs.rule.Cell.{signed_of, number_of}
use Rattle.cells.specs.declared.Signed.{Signed}
use Rattle.layout.specs.declared.Format.{Format}
use Rattle.layout.specs.declared.Kind.{Kind}
use Rattle.layout.specs.declared.Kind.TheVariants.{Single, Multiple, Quantity, Character, Logical}
use Rattle.layout.specs.declared.Spread.TheVariants.{Bits, Fields}
use Rattle.widths.specs.rule.Width.{size_of, minus_of, tail_of, least_whole, whole_digits, quantity_width, need, most_size, lowest, highest}
use Rattle.widths.specs.rule.Width.{fits_kind, decimals_of}

-- decimals within their limit
pub record FewDecimals (k : Kind) : Type 0 where
  pub few : decimals_of k ≤ 9

-- ---- laws
pub ten_some : (k : ℕ) → 0 < 10 ^ k
ten_some k = one-le-pow k 10 (omega arith)

pub tail_few : (f : Format) → f.decimals ≤ 9 → tail_of f ≤ 10
unfolding tail_of
tail_few f h = go (eqb f.point 0)
  where
    go : (b : Bool) → cond b 0 (f.decimals + 1) ≤ 10
    go true = omega arith
    go false = omega arith

-- ---- the digits before the point
pub least_upto : (f : Format) → least_whole f ≤ 1
unfolding least_whole
least_upto f = go (eqb f.point 2)
  where
    go : (b : Bool) → cond b 0 1 ≤ 1
    go true = omega arith
    go false = omega arith

-- without point code 2 there is one at least, and with it none need be there
pub least_one : (f : Format) → (f.point ≡ 2 → ⊥) → least_whole f ≡ 1
unfolding least_whole
least_one f h = rw (ne_eqb f.point 2 h)

pub least_none : (f : Format) → f.point ≡ 2 → least_whole f ≡ 0
unfolding least_whole
least_none f h = rw (eq-eqb f.point 2 h)

-- a number has a byte at least: a digit before the point, or the point
pub least_some : (f : Format) → 1 ≤ least_whole f + tail_of f
unfolding least_whole tail_of
least_some f = go (eqb f.point 2) (eqb f.point 0) refl refl
  where
    go : (a b : Bool) → eqb f.point 2 ≡ a → eqb f.point 0 ≡ b → 1 ≤ cond a 0 1 + cond b 0 (f.decimals + 1)
    go true true e g = absurd (omega (arith, eqb-true f.point 2 e, eqb-true f.point 0 g))
    go true false e g = omega arith
    go false b e g = omega arith

module _ (f : Format) (n : ℕ) where
  pub whole_least : least_whole f ≤ whole_digits f n
  unfolding whole_digits
  whole_least = go (eqb (n / 10 ^ f.decimals) 0)
    where
      go : (b : Bool) → least_whole f ≤ cond b (least_whole f) (digits_of (n / 10 ^ f.decimals))
      go true = omega arith
      go false = omega (arith, least_upto f, digits_some (n / 10 ^ f.decimals))

  pub whole_upto : whole_digits f n ≤ digits_of (n / 10 ^ f.decimals)
  unfolding whole_digits
  whole_upto = go (eqb (n / 10 ^ f.decimals) 0)
    where
      go : (b : Bool) → cond b (least_whole f) (digits_of (n / 10 ^ f.decimals)) ≤ digits_of (n / 10 ^ f.decimals)
      go true = omega (arith, least_upto f, digits_some (n / 10 ^ f.decimals))
      go false = omega arith

  -- so many digits hold what stands before the point
  pub whole_hold : n < 10 ^ 16 → n / 10 ^ f.decimals < 10 ^ whole_digits f n
  unfolding whole_digits
  whole_hold few = go (eqb (n / 10 ^ f.decimals) 0) refl
    where
      go : (b : Bool) → eqb (n / 10 ^ f.decimals) 0 ≡ b
          → n / 10 ^ f.decimals < 10 ^ cond b (least_whole f) (digits_of (n / 10 ^ f.decimals))
      go true e = omega (arith, eqb-true (n / 10 ^ f.decimals) 0 e, ten_some (least_whole f))
      go false e = digits_hold (n / 10 ^ f.decimals) (lt_of_le_of_lt (div-le_self n (10 ^ f.decimals)) few)

-- by the codes 0 and 1 nothing is changed: the digits of what stands before the point, at least one
pub whole_plain : (f : Format) (n : ℕ) → (f.point ≡ 2 → ⊥) → whole_digits f n ≡ digits_of (n / 10 ^ f.decimals)
unfolding whole_digits
whole_plain f n h = go (eqb (n / 10 ^ f.decimals) 0) refl
  where
    go : (b : Bool) → eqb (n / 10 ^ f.decimals) 0 ≡ b
        → cond b (least_whole f) (digits_of (n / 10 ^ f.decimals)) ≡ digits_of (n / 10 ^ f.decimals)
    go true e =
        let q = eqb-true (n / 10 ^ f.decimals) 0 e in
        let z : digits_of 0 ≡ 1 = le_antisymm (digits_least 0 1 (omega arith) (omega arith)) (digits_some 0) in
        rw (least_one f h, q, z)
    go false e = refl

-- a quantity's width from its sign and size
pub width_parts : (f : Format) (z : ℤ) (s : Signed) → s ≡ signed_of z
    → quantity_width f z ≡ whole_digits f s.size + tail_of f + cond s.minus 1 0
unfolding quantity_width
width_parts f z s e = rw e

-- ---- a number between two others takes no more bytes than the wider of them
div_rises : (m n k : ℕ) → 0 < k → m ≤ n → m / k ≤ n / k
div_rises m n k p h = (le-div_iff_mul-le p).1 (le_trans (div-mul-le_self m k) h)

whole_rises : (f : Format) (m n : ℕ) → m ≤ n → n < 10 ^ 16 → whole_digits f m ≤ whole_digits f n
unfolding whole_digits
whole_rises f m n h l = go (eqb a 0) (eqb b 0) refl refl
  where
    a : ℕ
    a = m / 10 ^ f.decimals

    b : ℕ
    b = n / 10 ^ f.decimals

    rises : a ≤ b
    rises = div_rises m n (10 ^ f.decimals) (ten_some f.decimals) h

    go : (p q : Bool) → eqb a 0 ≡ p → eqb b 0 ≡ q → cond p (least_whole f) (digits_of a) ≤ cond q (least_whole f) (digits_of b)
    go true true e g = omega arith
    go true false e g = omega (arith, least_upto f, digits_some b)
    go false true e g = absurd (omega (arith, rises, eqb-false a 0 e, eqb-true b 0 g))
    go false false e g = digits_rise a b rises (lt_of_le_of_lt (div-le_self n (10 ^ f.decimals)) l)

rises_up : (k : Kind) (m n : ℕ) → m ≤ n → n < 10 ^ 16 → need k (pos m) ≤ need k (pos n)
unfolding need quantity_width signed_of
rises_up Single m n h l = digits_rise m n h l
rises_up (Multiple Bits) m n h l = h
rises_up (Multiple (Fields c w)) m n h l = digits_rise m n h l
rises_up (Quantity f) m n h l = omega (arith, whole_rises f m n h l)
rises_up Character m n h l = omega arith
rises_up Logical m n h l = omega arith

rises_down : (k : Kind) (m n : ℕ) → m ≤ n → suc n < 10 ^ 16 → need k (negsuc m) ≤ need k (negsuc n)
unfolding need quantity_width signed_of
rises_down Single m n h l = digits_rise (suc m) (suc n) (omega arith) l
rises_down (Multiple Bits) m n h l = omega arith
rises_down (Multiple (Fields c w)) m n h l = digits_rise (suc m) (suc n) (omega arith) l
rises_down (Quantity f) m n h l = omega (arith, whole_rises f (suc m) (suc n) (omega arith) l)
rises_down Character m n h l = omega arith
rises_down Logical m n h l = omega arith

module _ (k : Kind) where
  pub need_between : (a z b : ℤ) → le_z a z ≡ true → le_z z b ≡ true → size_of a < 10 ^ 16 → size_of b < 10 ^ 16
      → need k z ≤ max (need k a) (need k b)
  unfolding signed_of
  need_between a (pos n) (pos m) h g p q = omega (arith, rises_up k n m (leb-true n m g) q)
  need_between a (pos n) (negsuc m) h g p q = holds_not g refl
  need_between (pos m) (negsuc n) b h g p q = holds_not h refl
  need_between (negsuc m) (negsuc n) b h g p q = omega (arith, rises_down k n m (leb-true n m h) p)

-- ---- a number within the limits of its kind has at most 15 digits
pub most_upto : (f : Format) → most_size f ≤ 999999999999999
unfolding most_size
most_upto f = go (eqb f.point 2)
  where
    go : (b : Bool) → cond b (min (10 ^ f.decimals - 1) 999999999999999) 999999999999999 ≤ 999999999999999
    go true = omega arith
    go false = omega arith

-- a minus and a size, no smaller than another
pub minus_within : (m n : ℕ) → le_z (number_of true m) (negsuc n) ≡ true → suc n ≤ m
unfolding number_of
minus_within zero n e = holds_not e refl
minus_within (suc m) n e = omega (arith, leb-true n m e)

up_small : (k : Kind) (n : ℕ) → le_z (pos n) (highest k) ≡ true → n ≤ 999999999999999
unfolding highest
up_small Single n e = omega (arith, leb-true n 9999 e)
up_small (Multiple s) n e = omega (arith, leb-true n 9999 e)
up_small (Quantity f) n e = omega (arith, leb-true n (most_size f) e, most_upto f)
up_small Character n e = omega (arith, leb-true n 9999 e)
up_small Logical n e = omega (arith, leb-true n 9999 e)

down_small : (k : Kind) (n : ℕ) → le_z (lowest k) (negsuc n) ≡ true → suc n ≤ 999999999999999
unfolding lowest
down_small Single n e = holds_not e refl
down_small (Multiple s) n e = holds_not e refl
down_small (Quantity f) n e = omega (arith, minus_within (most_size f) n e, most_upto f)
down_small Character n e = holds_not e refl
down_small Logical n e = holds_not e refl

pub size_small : (k : Kind) (z : ℤ) → le_z (lowest k) z ≡ true → le_z z (highest k) ≡ true → size_of z ≤ 999999999999999
unfolding signed_of
size_small k (pos n) e g = up_small k n g
size_small k (negsuc n) e g = down_small k n e

-- and the other way round: a quantity of so many digits, nearer zero than 1 where the point's code is 2, is within the limits
pub size_within : (z : ℤ) → le_z (negsuc 999999999999998) z ≡ true → le_z z (pos 999999999999999) ≡ true → size_of z ≤ 999999999999999
unfolding signed_of
size_within (pos n) a b = leb-true n 999999999999999 b
size_within (negsuc n) a b = omega (arith, leb-true n 999999999999998 a)

most_within : (f : Format) (n : ℕ) → n ≤ 999999999999999 → (f.point ≡ 2 → n < 10 ^ f.decimals) → n ≤ most_size f
unfolding most_size
most_within f n h near = go (eqb f.point 2) refl
  where
    go : (b : Bool) → eqb f.point 2 ≡ b → n ≤ cond b (min (10 ^ f.decimals - 1) 999999999999999) 999999999999999
    go true e = omega (arith, near (eqb-true f.point 2 e))
    go false e = h

pub size_fits : (f : Format) (z : ℤ) → size_of z ≤ 999999999999999 → (f.point ≡ 2 → size_of z < 10 ^ f.decimals)
    → fits_kind (Quantity f) z ≡ true
unfolding lowest highest signed_of number_of
size_fits f (pos n) h near = and_true (le_z (number_of true (most_size f)) (pos n)) _ (low (most_size f))
    (le-leb n (most_size f) (most_within f n h near))
  where
    low : (m : ℕ) → le_z (number_of true m) (pos n) ≡ true
    low zero = le-leb 0 n (omega arith)
    low (suc m) = refl
size_fits f (negsuc n) h near = and_true (le_z (number_of true (most_size f)) (negsuc n)) _
    (low (most_size f) (most_within f (suc n) h near))
    refl
  where
    low : (m : ℕ) → suc n ≤ m → le_z (number_of true m) (negsuc n) ≡ true
    low zero g = absurd (omega arith)
    low (suc m) g = le-leb n m (omega arith)

-- ---- how wide a number of each kind may be: four digits of a category; 9,999; a minus, 15 digits and a point
unfoldable pub most_width : Kind → ℕ
most_width Single = 4
most_width (Multiple Bits) = 9999
most_width (Multiple (Fields n w)) = 4
most_width (Quantity f) = 17
most_width Character = 0
most_width Logical = 0

category_few : (z : ℤ) → le_z (pos 1) z ≡ true → le_z z (pos 9999) ≡ true → (1 ≤ size_of z) × (size_of z ≤ 9999)
unfolding signed_of
category_few (pos n) e g = (leb-true 1 n e, leb-true n 9999 g)
category_few (negsuc n) e g = holds_not e refl

digits_four : (z : ℤ) → le_z (pos 1) z ≡ true → le_z z (pos 9999) ≡ true → digits_of (size_of z) ≤ 4
digits_four z e g = digits_least (size_of z) 4 (omega arith) (omega (arith, (category_few z e g).1))

-- 15 digits of which so many are decimals
whole_few : (f : Format) (n : ℕ) → f.decimals ≤ 9 → n ≤ 999999999999999 → whole_digits f n + f.decimals ≤ 15
whole_few f n d h =
    let k = f.decimals in
    let q : 15 - k + k ≡ 15 = omega arith in
    let e : 10 ^ (15 - k) * 10 ^ k ≡ 10 ^ 15 = sym (pow-add 10 (15 - k) k) ∙ ap (λ (m : ℕ). 10 ^ m) q in
    let l : n < 10 ^ (15 - k) * 10 ^ k = rw e (omega arith) in
    omega (arith, whole_upto f n, digits_least (n / 10 ^ k) (15 - k) (omega arith) ((div-lt_iff_lt-mul (ten_some k)).1 l))

tail_upto : (f : Format) → tail_of f ≤ f.decimals + 1
unfolding tail_of
tail_upto f = go (eqb f.point 0)
  where
    go : (b : Bool) → cond b 0 (f.decimals + 1) ≤ f.decimals + 1
    go true = omega arith
    go false = omega arith

-- a point takes a byte
pub tail_point : (f : Format) → (f.point ≡ 0 → ⊥) → tail_of f ≡ f.decimals + 1
unfolding tail_of
tail_point f e = rw (ne_eqb f.point 0 e)

minus_few : (b : Bool) → cond b 1 0 ≤ 1
minus_few true = omega arith
minus_few false = omega arith

pub need_most : (k : Kind) (z : ℤ) → decimals_of k ≤ 9 → fits_kind k z ≡ true → need k z ≤ most_width k
unfolding need most_width decimals_of quantity_width lowest highest
need_most Single z d e = digits_four z (and_left _ (le_z z (pos 9999)) e) (and_right (le_z (pos 1) z) _ e)
need_most (Multiple Bits) z d e = (category_few z (and_left _ (le_z z (pos 9999)) e) (and_right (le_z (pos 1) z) _ e)).1
need_most (Multiple (Fields n w)) z d e = digits_four z (and_left _ (le_z z (pos 9999)) e) (and_right (le_z (pos 1) z) _ e)
need_most (Quantity f) z d e =
    omega (
      arith,
      whole_few f (size_of z) d
          (size_small (Quantity f) z (and_left _ (le_z z (pos (most_size f))) e) (and_right (le_z (number_of true (most_size f)) z) _ e)),
      tail_upto f,
      minus_few (signed_of z).minus,
    )
need_most Character z d e = omega arith
need_most Logical z d e = omega arith

-- every kind that has values takes a byte at least
abbrev pub Valued : Kind → Type 0
Valued Single = Unit
Valued (Multiple s) = Unit
Valued (Quantity f) = Unit
Valued Character = ⊥
Valued Logical = ⊥

pub need_some : (k : Kind) (z : ℤ) → Valued k → fits_kind k z ≡ true → 1 ≤ need k z
unfolding need quantity_width lowest highest
need_some Single z v e = digits_some (size_of z)
need_some (Multiple Bits) z v e = (category_few z (and_left _ (le_z z (pos 9999)) e) (and_right (le_z (pos 1) z) _ e)).0
need_some (Multiple (Fields n w)) z v e = digits_some (size_of z)
need_some (Quantity f) z v e = omega (arith, whole_least f (size_of z), least_some f)
need_some Character z v e = absurd v
need_some Logical z v e = absurd v

-- ---- point code 2: shares without a leading zero
module _ (f : Format) (share : f.point ≡ 2) where
  -- with few decimals the limit is that of the paper: nearer zero than 1
  pub share_most : f.decimals ≤ 9 → most_size f + 1 ≡ 10 ^ f.decimals
  unfolding most_size
  share_most d =
      let k : 10 ^ f.decimals ≤ 10 ^ 9 = pow-le-pow_right (lit< tt) d in
      rw (eq-eqb f.point 2 share) (omega (arith, ten_some f.decimals))

  -- a size that keeps within it leaves nothing before the point
  pub share_whole : (n : ℕ) → n ≤ most_size f → n / 10 ^ f.decimals ≡ 0
  unfolding most_size
  share_whole n h = div-eq_of_lt (omega (arith, ten_some f.decimals, rw (eq-eqb f.point 2 share) at h))

  -- "w counts none": the point, the decimals, and a minus
  pub share_width : (z : ℤ) → size_of z ≤ most_size f → quantity_width f z ≡ f.decimals + 1 + minus_of z
  unfolding quantity_width whole_digits
  share_width z h =
      let w = share_whole (size_of z) h in
      rw (eq-eqb _ 0 w, least_none f share, tail_point f (λ e. omega arith)) (omega arith)

-- "7 is met less often": by code 1 a number never takes fewer bytes than by code 2
pub share_narrower : (d : ℕ) (z : ℤ)
    → quantity_width (record { decimals = d; point = 2 }) z ≤ quantity_width (record { decimals = d; point = 1 }) z
unfolding quantity_width tail_of
share_narrower d z =
    let p : Format = record { decimals = d; point = 1 } in
    let s : Format = record { decimals = d; point = 2 } in
    omega (arith, whole_upto s (size_of z), whole_plain p (size_of z) (λ e. omega arith))
