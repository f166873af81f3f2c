-- As many bytes are spaces as a number of eight bytes, less eight spaces, has lowest bytes that are 0.
use mathlib.Core.Path.{◌≡◌, refl, ap, ◌∙◌}
use mathlib.Core.List.{List}
use Prim.Native.Nat.{ℕ, zero, suc, ◌+◌, ◌*◌, ◌/◌, ◌%◌, ◌≤◌, ◌<◌}
use native.Mathlib.Omega.{arith}
use lib.ListN.{length, get_or}
use lib.Seq.{drop-cons}
use lib.Count.{count_trailing_zeros, under, trailing_of_zero, trailing_le}
use Rattle.little.specs.rule.Bytes.{little_number}
use Rattle.little.specs.Bytes.{number_at}
use Rattle.tokens.specs.rule.Gap.{gap_at}
use Rattle.tokens.specs.Spaces.{OverSpaces, bytes_clear}
use Rattle.tokens.proofs.Gaps.{gap_blank}

-- ---- bits that are 0, one by one and eight by eight
bit_clear : (k n : ℕ) → 0 < count_trailing_zeros (suc k) n → (n % 2 ≡ 0)
    × (count_trailing_zeros (suc k) n ≡ suc (count_trailing_zeros k (n / 2)))
unfolding count_trailing_zeros
bit_clear k n = by (n % 2) where
  by : (m : ℕ) → 0 < under m (count_trailing_zeros k (n / 2)) → (m ≡ 0)
      × (under m (count_trailing_zeros k (n / 2)) ≡ suc (count_trailing_zeros k (n / 2)))
  by zero h = (refl, refl)
  by (suc m) h = absurd (omega arith)

byte_clear : (k n : ℕ) → 8 ≤ count_trailing_zeros (suc (suc (suc (suc (suc (suc (suc (suc k)))))))) n
    → (n % 256 ≡ 0) × (count_trailing_zeros (suc (suc (suc (suc (suc (suc (suc (suc k)))))))) n ≡ 8 + count_trailing_zeros k (n / 256))
byte_clear k n h =
    let a = bit_clear (suc (suc (suc (suc (suc (suc (suc k))))))) n (omega arith) in
    let b = bit_clear (suc (suc (suc (suc (suc (suc k)))))) (n / 2) (omega arith) in
    let c = bit_clear (suc (suc (suc (suc (suc k))))) (n / 2 / 2) (omega arith) in
    let d = bit_clear (suc (suc (suc (suc k)))) (n / 2 / 2 / 2) (omega arith) in
    let e = bit_clear (suc (suc (suc k))) (n / 2 / 2 / 2 / 2) (omega arith) in
    let f = bit_clear (suc (suc k)) (n / 2 / 2 / 2 / 2 / 2) (omega arith) in
    let g = bit_clear (suc k) (n / 2 / 2 / 2 / 2 / 2 / 2) (omega arith) in
    let i = bit_clear k (n / 2 / 2 / 2 / 2 / 2 / 2 / 2) (omega arith) in
    let q : n / 2 / 2 / 2 / 2 / 2 / 2 / 2 / 2 ≡ n / 256 = omega arith in
    let r : count_trailing_zeros k (n / 2 / 2 / 2 / 2 / 2 / 2 / 2 / 2) ≡ count_trailing_zeros k (n / 256) = ap (count_trailing_zeros k) q in
    (omega arith, omega arith)

-- ---- bytes that are spaces
-- what so many spaces say, and so many bytes above a number
unfoldable spaces_of : ℕ → ℕ
spaces_of zero = 0
spaces_of (suc m) = 32 + 256 * spaces_of m

unfoldable above : ℕ → ℕ → ℕ
above zero c = c
above (suc m) c = 256 * above m c

taken : (d : List ℕ) (i m : ℕ) → i < length d → number_at (suc m) i d ≡ get_or d i 0 + 256 * number_at m (i + 1) d
unfolding number_at little_number
taken d i m h = let e : i + 1 ≡ suc i = omega arith in rw (e, drop-cons d i 0 h)

lead : (d : List ℕ) → ((k : ℕ) → get_or d k 0 < 256) → (m i r x c : ℕ) → i + m ≤ length d → 8 * r ≤ count_trailing_zeros (8 * m) x
    → number_at m i d + above m c ≡ x + spaces_of m → gap_at d i ≡ gap_at d (i + r)
unfolding spaces_of above
lead d u m i zero x c h t e = let q : i ≡ i + 0 = omega arith in ap (gap_at d) q
lead d u zero i (suc r) x c h t e = let z = trailing_le (8 * 0) x in absurd (omega arith)
lead d u (suc m) i (suc r) x c h t e =
    let k : 8 * suc m ≡ suc (suc (suc (suc (suc (suc (suc (suc (8 * m)))))))) = omega arith in
    let f = rw k at t in
    let z = byte_clear (8 * m) x (omega arith) in
    let s : spaces_of (suc m) ≡ 32 + 256 * spaces_of m = refl in
    let a : above (suc m) c ≡ 256 * above m c = refl in
    let n = taken d i m (omega arith) in
    let b = u i in
    let g : i + 1 + r ≡ i + suc r = omega arith in
    gap_blank d i (omega arith) (omega arith) ∙ lead d u m (i + 1) r (x / 256) c (omega arith) (omega arith) (omega arith)
    ∙ ap (gap_at d) g

pub spaces_clear : (d : List ℕ) → ((k : ℕ) → get_or d k 0 < 256) → (i x : ℕ) → i + 8 ≤ length d → OverSpaces (number_at 8 i d) x
    → gap_at d i ≡ gap_at d (i + bytes_clear x)
unfolding bytes_clear spaces_of above
spaces_clear d u i x h o = lead d u 8 i (count_trailing_zeros 64 x / 8) x o.0 h (omega arith) (omega (arith, o.1))

-- where none of the bits is set, all eight are
pub all_clear : bytes_clear 0 ≡ 8
unfolding bytes_clear
all_clear = rw (trailing_of_zero 64) refl

pub clear_most : (x : ℕ) → bytes_clear x ≤ 8
unfolding bytes_clear
clear_most x = let t = trailing_le 64 x in omega arith

pub all_spaces_lem : (d : List ℕ) (i x : ℕ) → x ≡ 0 → gap_at d i ≡ gap_at d (i + bytes_clear x) → gap_at d i ≡ gap_at d (i + 8)
all_spaces_lem d i x e g = let z : bytes_clear x ≡ 8 = ap bytes_clear e ∙ all_clear in rw z at g

pub part_spaces : (d : List ℕ) (i x r : ℕ) → r ≡ bytes_clear x → gap_at d i ≡ gap_at d (i + bytes_clear x) → gap_at d i ≡ gap_at d (i + r)
part_spaces d i x r e g = rw e g
