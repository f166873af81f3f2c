-- The bytes of a number: how many there are, and that they read back as the number.
use Rattle.std.specs.Prelude.{◌≡◌, Bool, ℕ, zero, suc, ◌+◌, ◌-◌, ◌*◌, ◌/◌, ◌%◌, ◌^◌, ◌≤◌, ◌<◌, ℤ, pos, negsuc}
use Rattle.std.proofs.Math.Path.{refl, ap}
use Rattle.std.proofs.Common.{sym, ◌∙◌, add-mul, mul_assoc, add_assoc, mod-lt, mod-eq_of_lt, div-one, lt_of_lt_of_le, zero-mul, zero-add}
use Rattle.std.proofs.Common.{arith, lit<, length-append}
use Rattle.std.proofs.Math.Bool.{true, false, cond}
use mathlib.Core.List.{List, [], ◌∷◌, ◌++◌, append-nil}
use Rattle.std.proofs.Math.Nat.{pow-succ', div-add-mod', pow-le-pow_right, sub-zero}
use borrow.Author.Tests.{ne_eqb, eqb-true, le-leb}
use Rattle.std.proofs.Math.Arith.{mod-mul}
use Rattle.std.proofs.Math.Dec.{eqb}
use Rattle.std.proofs.Math.ListN.{length, take, drop, get_or}
use Rattle.std.proofs.Math.Seq.{take_at, get_or_at, drop-append-add, take-length, drop-length}
use Rattle.cells.specs.rule.Cell.{number_of, signed_of}
use Rattle.widths.specs.rule.Width.{tail_of, least_whole, whole_digits, quantity_width, size_of, minus_of}
use Rattle.widths.specs.Width.{ten_some, least_one, whole_least, whole_hold}
use Rattle.layout.specs.declared.Format.{Format}
use Rattle.fields.specs.rule.Number.{unspaced, digits_only, decimal_from, decimal, says, code_after, code_of, amount_form}
use Rattle.fields.specs.rule.Number.{amount_size, amount_of, quantity_after, quantity_of, padded, amount_bytes, quantity_bytes, code_bytes}

-- ---- digits
pub length_padded : (k n : ℕ) → length (padded k n) ≡ k
unfolding padded
length_padded zero n = refl
length_padded (suc k) n = ap suc (length_padded k n)

digit_few : (n k : ℕ) → n / 10 ^ k % 10 < 10
digit_few n k = mod-lt (n / 10 ^ k) (lit< tt)

pub padded_digits : (k n : ℕ) → digits_only (padded k n) ≡ true
unfolding padded digits_only
padded_digits zero n = refl
padded_digits (suc k) n =
    rw (
      le-leb 48 (48 + n / 10 ^ k % 10) (omega arith),
      le-leb (48 + n / 10 ^ k % 10) 57 (omega (arith, digit_few n k)),
    )
    (padded_digits k n)

-- the digit at 10 ^ k and the digits below it
split : (n k : ℕ) → n % 10 ^ suc k ≡ (n / 10 ^ k % 10) * 10 ^ k + n % 10 ^ k
split n k = rw pow-succ' (mod-mul n (lit< tt) (ten_some k))

shift : (a n k : ℕ) → (a * 10 + n / 10 ^ k % 10) * 10 ^ k + n % 10 ^ k ≡ a * 10 ^ suc k + n % 10 ^ suc k
shift a n k = rw (split, pow-succ') (simp (add-mul, mul_assoc, add_assoc))

-- what the last k digits of n say after a
said_padded : (k a n : ℕ) → decimal_from a (padded k n) ≡ a * 10 ^ k + n % 10 ^ k
unfolding padded decimal_from
said_padded zero a n = omega arith
said_padded (suc k) a n =
    let e : 48 + n / 10 ^ k % 10 - 48 ≡ n / 10 ^ k % 10 = omega arith in
    ap (λ (x : ℕ). decimal_from (a * 10 + x) (padded k n)) e ∙ said_padded k (a * 10 + n / 10 ^ k % 10) n ∙ shift a n k

said_append : (xs : List ℕ) (a : ℕ) (ys : List ℕ) → decimal_from a (xs ++ ys) ≡ decimal_from (decimal_from a xs) ys
unfolding decimal_from
said_append [] a ys = refl
said_append (x ∷ xs) a ys = said_append xs (a * 10 + (x - 48)) ys

pub decimal_padded : (k n : ℕ) → n < 10 ^ k → decimal (padded k n) ≡ n
decimal_padded k n h = said_padded k 0 n ∙ rw (zero-mul, zero-add) (mod-eq_of_lt h)

-- ---- a code: SINGLE, and a subfield of a spread
pub code_back : (w n : ℕ) → 1 ≤ w → n < 10 ^ w → code_of (padded w n) ≡ says (pos n)
unfolding code_of code_after unspaced padded
code_back zero n h l = absurd (omega arith)
code_back (suc k) n h l =
    let d = 48 + n / 10 ^ k % 10 in
    let e : digits_only (d ∷ padded k n) ≡ true = padded_digits (suc k) n in
    let q : decimal (d ∷ padded k n) ≡ n = decimal_padded (suc k) n l in
    rw (ne_eqb d 32 (λ x. omega arith), e, q)

-- ---- an amount: digits, and the point and the decimals where the format has them
module _ (f : Format) where
  tail_plain : eqb f.point 0 ≡ true → tail_of f ≡ 0
  unfolding tail_of
  tail_plain e = rw e

  tail_pointed : eqb f.point 0 ≡ false → tail_of f ≡ f.decimals + 1
  unfolding tail_of
  tail_pointed e = rw e

  bytes_plain : (w n : ℕ) → eqb f.point 0 ≡ true → f.decimals ≡ 0 → amount_bytes f w n ≡ padded w n
  unfolding amount_bytes
  bytes_plain w n e d = rw (e, tail_plain e, d, append-nil, sub-zero) (ap (padded w) (div-one n))

  bytes_pointed : (w n : ℕ) → eqb f.point 0 ≡ false
      → amount_bytes f w n ≡ padded (w - tail_of f) (n / 10 ^ f.decimals) ++ 46 ∷ padded f.decimals n
  unfolding amount_bytes
  bytes_pointed w n e = rw e

  length_pointed : (w a n : ℕ) → eqb f.point 0 ≡ false → tail_of f ≤ w
      → length (padded (w - tail_of f) a ++ 46 ∷ padded f.decimals n) ≡ w
  length_pointed w a n e h = rw (length-append, length_padded) (simp length_padded (omega (arith, tail_pointed e)))

  pub length_amount : (w n : ℕ) → tail_of f ≤ w → length (amount_bytes f w n) ≡ w
  unfolding amount_bytes
  length_amount w n h = go (eqb f.point 0) refl
    where
      go : (b : Bool) → eqb f.point 0 ≡ b
          → length (padded (w - tail_of f) (n / 10 ^ f.decimals) ++ cond b [] (46 ∷ padded f.decimals n)) ≡ w
      go true e = rw (append-nil, length_padded) (omega (arith, tail_plain e))
      go false e = length_pointed w (n / 10 ^ f.decimals) n e h

  -- no point: the digits alone
  amount_plain : (minus : Bool) (w n : ℕ) → eqb f.point 0 ≡ true → 1 ≤ w → n < 10 ^ w
      → f.decimals ≡ 0 → amount_of f minus (padded w n) ≡ says (number_of minus n)
  unfolding amount_of amount_form amount_size digits_only
  amount_plain minus w n e h l d =
      let t : take w (padded w n) ≡ padded w n = ap (λ (k : ℕ). take k (padded w n)) (sym (length_padded w n)) ∙ take-length (padded w n) in
      let x : drop w (padded w n) ≡ [] = ap (λ (k : ℕ). drop k (padded w n)) (sym (length_padded w n)) ∙ drop-length (padded w n) in
      let o = least_one f (λ q. omega (arith, eqb-true f.point 0 e)) in
      rw (length_padded w n, tail_plain e, o, d, e, sub-zero, t) (rw (x, le-leb 1 w h, padded_digits w n, decimal_padded w n l))

  -- a point: the digits before it, it, and the decimals
  amount_pointed : (minus : Bool) (w n : ℕ) → eqb f.point 0 ≡ false → least_whole f + tail_of f ≤ w
      → n / 10 ^ f.decimals < 10 ^ (w - tail_of f)
      → amount_of f minus (padded (w - tail_of f) (n / 10 ^ f.decimals) ++ 46 ∷ padded f.decimals n) ≡ says (number_of minus n)
  unfolding amount_of amount_form amount_size
  amount_pointed minus w n e h l =
      let k = w - tail_of f in
      let a = n / 10 ^ f.decimals in
      let xs = padded k a in
      let ys = padded f.decimals n in
      let s = xs ++ 46 ∷ ys in
      let size : length s ≡ w = length_pointed w a n e (omega arith) in
      let front : take k s ≡ xs = take_at xs (46 ∷ ys) k (length_padded k a) in
      let mark : get_or s k 0 ≡ 46 = get_or_at xs 46 ys 0 k (length_padded k a) in
      let q : w - f.decimals ≡ length xs + 1 = omega (arith, length_padded k a, tail_pointed e) in
      let back : drop (w - f.decimals) s ≡ ys = ap (λ (i : ℕ). drop i s) q ∙ drop-append-add xs (46 ∷ ys) 1 in
      let said : decimal (xs ++ ys) ≡ n =
      said_append xs 0 ys ∙ ap (λ (i : ℕ). decimal_from i ys) (decimal_padded k a l) ∙ said_padded f.decimals a n
      ∙ div-add-mod' n (10 ^ f.decimals) in
      rw (size, e, front, mark, back) (rw (le-leb (least_whole f + tail_of f) w h, padded_digits k a, padded_digits f.decimals n, said))

  -- what is written without its minus reads back as written
  pub amount_back : (minus : Bool) (w n : ℕ) → (f.point ≡ 0 → f.decimals ≡ 0) → least_whole f + tail_of f ≤ w
      → n / 10 ^ f.decimals < 10 ^ (w - tail_of f)
      → amount_of f minus (amount_bytes f w n) ≡ says (number_of minus n)
  amount_back minus w n plain h l = go (eqb f.point 0) refl
    where
      go : (b : Bool) → eqb f.point 0 ≡ b → amount_of f minus (amount_bytes f w n) ≡ says (number_of minus n)
      go true e =
          let d : f.decimals ≡ 0 = plain (eqb-true f.point 0 e) in
          let m : n < 10 ^ w = rw (tail_plain e, d, div-one, sub-zero) at l in
          let o = least_one f (λ q. omega (arith, eqb-true f.point 0 e)) in
          rw (bytes_plain w n e d) (amount_plain minus w n e (omega arith) m d)
      go false e = rw (bytes_pointed w n e) (amount_pointed minus w n e h l)

-- an amount begins with a digit, or with its point: no space, no minus
led : (f : Format) (w n : ℕ) → least_whole f + tail_of f ≤ w → quantity_of f (amount_bytes f w n) ≡ amount_of f false (amount_bytes f w n)
unfolding quantity_of quantity_after unspaced amount_bytes padded
led f w n h = go (w - tail_of f) refl
  where
    go : (k : ℕ) → w - tail_of f ≡ k → quantity_of f (amount_bytes f w n) ≡ amount_of f false (amount_bytes f w n)
    go (suc k) e =
        let d = 48 + n / 10 ^ f.decimals / 10 ^ k % 10 in
        rw e (rw (ne_eqb d 32 (λ q. omega arith), ne_eqb d 45 (λ q. omega arith)))
    go zero e = rw e (by (eqb f.point 0) refl)
      where
        by : (b : Bool) → eqb f.point 0 ≡ b
            → quantity_of f (cond b [] (46 ∷ padded f.decimals n)) ≡ amount_of f false (cond b [] (46 ∷ padded f.decimals n))
        by true q =
            let o = least_one f (λ p. omega (arith, eqb-true f.point 0 q)) in
            absurd (omega (arith, tail_plain f q))
        by false q = refl

-- ---- a quantity that takes at most w bytes
whole_few : (f : Format) (n v : ℕ) → n < 10 ^ 16 → whole_digits f n ≤ v → n / 10 ^ f.decimals < 10 ^ v
whole_few f n v few h = lt_of_lt_of_le (whole_hold f n few) (pow-le-pow_right (lit< tt) h)

-- as many bytes as the width, where the point, the decimals and the minus have room
pub quantity_length : (f : Format) (w : ℕ) (z : ℤ) → tail_of f + minus_of z ≤ w → length (quantity_bytes f w z) ≡ w
unfolding quantity_bytes signed_of
quantity_length f w (pos n) h = length_amount f w n (omega arith)
quantity_length f w (negsuc n) h = rw (length_amount f (w - 1) (suc n) (omega arith)) (omega arith)

module _ (f : Format) (w : ℕ) (plain : f.point ≡ 0 → f.decimals ≡ 0) where
  pub quantity_back : (z : ℤ) → size_of z < 10 ^ 16 → quantity_width f z ≤ w → quantity_of f (quantity_bytes f w z) ≡ says z
  unfolding quantity_of quantity_after unspaced quantity_bytes quantity_width signed_of number_of
  quantity_back (pos n) few h =
      let t : least_whole f + tail_of f ≤ w = omega (arith, whole_least f n) in
      led f w n t ∙ amount_back f false w n plain t (whole_few f n (w - tail_of f) few (omega arith))
  quantity_back (negsuc n) few h =
      amount_back f true (w - 1) (suc n) plain (omega (arith, whole_least f (suc n)))
      (whole_few f (suc n) (w - 1 - tail_of f) few (omega arith))

  pub length_quantity : (z : ℤ) → quantity_width f z ≤ w → length (quantity_bytes f w z) ≡ w
  unfolding quantity_width
  length_quantity z h = quantity_length f w z (omega arith)

-- ---- a code of at most w digits
pub length_code : (w : ℕ) (z : ℤ) → length (code_bytes w z) ≡ w
unfolding code_bytes
length_code w z = length_padded w (signed_of z).size
