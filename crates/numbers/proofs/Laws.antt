-- What the readers of numbers lean on: digits read, and an amount by its parts.
-- Assumes nothing.
use mathlib.Core.Path.{◌≡◌, refl, ◌∙◌}
use mathlib.Core.Bool.{Bool, true, false, cond}
use mathlib.Core.List.{List, [], ◌∷◌, ◌++◌}
use Prim.Native.Nat.{ℕ, suc, ◌+◌, ◌-◌, ◌*◌, ◌^◌, ◌≤◌, ◌<◌}
use native.Mathlib.Nat.{sub-zero, pow-le-pow_right, le_trans, one-mul, mul-le-mul_right}
use native.Mathlib.Numerals.{add-one}
use native.Mathlib.Omega.{arith}
use borrow.Author.Tests.{lt-leb, le-leb, eq-eqb, ne_eqb}
use lib.IntN.{pos}
use lib.ListN.{length, take, drop, get_or, length-drop, drop_of_length-le}
use lib.Pow.{pow-add}
use lib.Seq.{length-take-le, take_all, take-length, drop-length, drop-cons}
use Rattle.cells.specs.rule.Cell.{number_of}
use Rattle.layout.specs.declared.Format.{Format}
use Rattle.widths.specs.rule.Width.{tail_of, least_whole}
use Rattle.widths.specs.Width.{tail_point}
use Rattle.fields.specs.rule.Number.{blank, says, wrong, digits_only, decimal_from, decimal, unspaced, code_after, code_of, amount_form}
use Rattle.fields.specs.rule.Number.{amount_size, amount_of, quantity_after, quantity_of}
use Rattle.numbers.specs.Numeral.{digits_read, decimals_read}
use Rattle.numbers.specs.Room.{decimal_room}
use Rattle.std.specs.Prelude.{Some, None}

-- ---- digits that were read
module _ (n : ℕ) (x : List ℕ) where
  pub value_only : (m : ℕ) → digits_read n x ≡ Some m → digits_only x ≡ true
  unfolding digits_read
  value_only m e = go (digits_only x) e
    where
      go : (b : Bool) → cond b (Some (decimal_from n x)) None ≡ Some m → b ≡ true
      go true q = refl
      go false q = let z : ◌≡◌ {A = ℕ} 0 1 = cc in absurd (omega arith)

  pub value_is : (m : ℕ) → digits_read n x ≡ Some m → decimal_from n x ≡ m
  unfolding digits_read
  value_is m e = let q : Some (decimal_from n x) ≡ Some m = rw (value_only m e) at e in cc

  pub wrong_only : digits_read n x ≡ None → digits_only x ≡ false
  unfolding digits_read
  wrong_only e = go (digits_only x) e
    where
      go : (b : Bool) → cond b (Some (decimal_from n x)) None ≡ None → b ≡ false
      go false q = refl
      go true q = let z : ◌≡◌ {A = ℕ} 0 1 = cc in absurd (omega arith)

  pub value_room : (m : ℕ) → digits_read n x ≡ Some m → m + 1 ≤ (n + 1) * 10 ^ length x
  value_room m e = rw (value_is m e) at (decimal_room n x (value_only m e))

-- ---- parts of a slice
pub rest_is : (s : List ℕ) (p : ℕ) → p ≤ length s → take (length s - p) (drop p s) ≡ drop p s
rest_is s p h = take_all (length s - p) (drop p s) (simp length-drop (omega arith))

pub short_rest : (s : List ℕ) (p : ℕ) → p ≤ length s → length s ≤ 17 → length (take (length s - p) (drop p s)) ≤ 17
short_rest s p h l = rw (rest_is s p h) (simp length-drop (omega arith))

pub few_digits : (x : List ℕ) → length x ≤ 18 → (0 + 1) * 10 ^ length x ≤ 10 ^ 18
few_digits x h = rw one-mul (pow-le-pow_right {n = 10} (omega arith) h)

pub few_rest : (s : List ℕ) (p : ℕ) → p ≤ length s → length s ≤ 17 → (0 + 1) * 10 ^ length (take (length s - p) (drop p s)) ≤ 10 ^ 18
few_rest s p h l = few_digits (take (length s - p) (drop p s)) (rw (rest_is s p h) (simp length-drop (omega arith)))

pub value_small : (x : List ℕ) (m : ℕ) → length x ≤ 17 → digits_read 0 x ≡ Some m → m < 10 ^ 18
value_small x m l e = le_trans (rw add-one at (value_room 0 x m e)) (few_digits x (omega arith))

-- digits before the point leave room for those after it
pub decimals_room : (s : List ℕ) (k n : ℕ) → k + 1 ≤ length s → length s ≤ 17 → digits_read 0 (take k s) ≡ Some n
    → (n + 1) * 10 ^ length (take (length s - (k + 1)) (drop (k + 1) s)) ≤ 10 ^ 18
decimals_room s k n h l e =
    let d : length (take (length s - (k + 1)) (drop (k + 1) s)) ≡ length s - (k + 1) = rw (rest_is s (k + 1) h) (length-drop (k + 1) s) in
    let v : n + 1 ≤ 10 ^ k = rw (length-take-le k s (omega arith), one-mul) at (value_room 0 (take k s) n e) in
    let q : k + (length s - (k + 1)) ≤ 18 = omega arith in
    rw d (le_trans (mul-le-mul_right (10 ^ (length s - (k + 1))) v)
    (rw (← pow-add 10 k (length s - (k + 1))) (pow-le-pow_right {n = 10} (omega arith) q)))

-- ---- a code
pub code_nonempty : (x : List ℕ) → 0 < length x → code_after x ≡ cond (digits_only x) (says (pos (decimal x))) wrong
unfolding code_after
code_nonempty [] h = absurd (omega arith)
code_nonempty (b ∷ x) h = refl

module _ (s : List ℕ) (p : ℕ) (skip : unspaced s ≡ drop p s) where
  pub code_none : length s ≤ p → code_of s ≡ blank
  unfolding code_of code_after
  code_none h = rw (skip, drop_of_length-le _ h)

  left : p < length s → 0 < length (drop p s)
  left h = simp length-drop (omega arith)

  pub code_says : (n : ℕ) → p < length s → digits_read 0 (drop p s) ≡ Some n → code_of s ≡ says (pos n)
  unfolding code_of
  code_says n h e = rw skip (code_nonempty (drop p s) (left h) ∙ rw (value_only 0 (drop p s) n e, value_is 0 (drop p s) n e))

  pub code_wrong : p < length s → digits_read 0 (drop p s) ≡ None → code_of s ≡ wrong
  unfolding code_of
  code_wrong h e = rw skip (code_nonempty (drop p s) (left h) ∙ rw (wrong_only 0 (drop p s) e))

  -- ---- a quantity by its sign
  module _ (f : Format) where
    pub quantity_none : length s ≤ p → quantity_of f s ≡ blank
    unfolding quantity_of quantity_after
    quantity_none h = rw (skip, drop_of_length-le _ h)

    pub quantity_minus : p < length s → get_or s p 0 ≡ 45 → quantity_of f s ≡ amount_of f true (drop (p + 1) s)
    unfolding quantity_of quantity_after
    quantity_minus h e = let q : p + 1 ≡ suc p = omega arith in rw (skip, drop-cons s p 0, eq-eqb _ _ e, q)

    pub quantity_plain : p < length s → (get_or s p 0 ≡ 45 → ⊥) → quantity_of f s ≡ amount_of f false (drop p s)
    unfolding quantity_of quantity_after
    quantity_plain h e = rw (skip) (by (drop p s) (drop-cons s p 0 h))
      where
        by : (x : List ℕ) → x ≡ get_or s p 0 ∷ drop (suc p) s → quantity_after f x ≡ amount_of f false x
        by x q = rw (q, ne_eqb _ _ e)

-- ---- an amount by its parts, the point at k
decimal_append : (n : ℕ) (x y : List ℕ) → decimal_from n (x ++ y) ≡ decimal_from (decimal_from n x) y
unfolding decimal_from
decimal_append n [] y = refl
decimal_append n (b ∷ x) y = decimal_append (n * 10 + (b - 48)) x y

module _ (f : Format) (minus : Bool) (s : List ℕ) where
  pub amount_short : length s < least_whole f + tail_of f → amount_of f minus s ≡ wrong
  unfolding amount_of amount_form
  amount_short h = rw (lt-leb _ _ h)

  module _ (k : ℕ) (at : k ≡ length s - tail_of f) (room : least_whole f + tail_of f ≤ length s) where
    -- before the whole part is judged nothing else counts
    pub amount_bad : digits_read 0 (take k s) ≡ None → amount_of f minus s ≡ wrong
    unfolding amount_of amount_form
    amount_bad e = rw (le-leb _ _ room, ← at, wrong_only 0 (take k s) e)

    module _ (n : ℕ) (whole : digits_read 0 (take k s) ≡ Some n) where
      pub amount_plain : f.point ≡ 0 → f.decimals ≡ 0 → amount_of f minus s ≡ says (number_of minus n)
      unfolding amount_of amount_form amount_size tail_of digits_only
      amount_plain p d =
          let t : tail_of f ≡ 0 = rw (eq-eqb _ _ p) in
          let l : k ≡ length s = at ∙ rw t (sub-zero (length s)) in
          let v : decimal_from 0 s ≡ n = rw (l, take-length s) at (value_is 0 (take k s) n whole) in
          let o : digits_only s ≡ true = rw (l, take-length s) at (value_only 0 (take k s) n whole) in
          let z = le-leb (least_whole f + tail_of f) (length s) room in
          rw (z) (rw (eq-eqb _ _ p, d, sub-zero, take-length, drop-length, o, v))

      pub amount_pointless : (f.point ≡ 0 → ⊥) → (get_or s k 0 ≡ 46 → ⊥) → amount_of f minus s ≡ wrong
      unfolding amount_of amount_form
      amount_pointless p g = rw (le-leb _ _ room, ← at, value_only 0 (take k s) n whole, ne_eqb _ _ p, ne_eqb _ _ g)

      pub amount_decimals : (f.point ≡ 0 → ⊥) → get_or s k 0 ≡ 46 → amount_of f minus s ≡ decimals_read minus n (drop (k + 1) s)
      unfolding amount_of amount_form amount_size decimals_read
      amount_decimals p g =
          let t : tail_of f ≡ f.decimals + 1 = tail_point f p in
          let d : length s - f.decimals ≡ k + 1 = omega arith in
          rw (le-leb _ _ room, ← at, value_only 0 (take k s) n whole, ne_eqb _ _ p, eq-eqb _ _ g, d)
          (rw (decimal_append 0 (take k s) (drop (k + 1) s), value_is 0 (take k s) n whole))
