-- One category more: what is left to put gives the whole.
use mathlib.Core.Path.{◌≡◌, refl, sym, ◌∙◌}
use mathlib.Core.Bool.{Bool, true, false, cond}
use mathlib.Core.List.{List}
use Prim.Native.Nat.{ℕ, suc, ◌+◌, ◌-◌, ◌≤◌, ◌<◌}
use native.Mathlib.Numerals.{add-one}
use native.Mathlib.Omega.{arith}
use lib.IntN.{ℤ, pos}
use lib.ListN.{length, set, drop}
use lib.Seq.{drop-drop}
use Rattle.cells.specs.Cell.{same_self}
use Rattle.places.specs.rule.Places.{put}
use Rattle.fields.specs.rule.Field.{spaces, is_member, bit_bytes}
use Rattle.fields.specs.rule.Row.{defined, bit_places}
use Rattle.fieldlaws.specs.Tests.{counts_differ}
use Rattle.fieldlaws.specs.RisingLaws.{Rising, none, skip, keep, not_below}
use Rattle.fieldlaws.specs.KeptLaws.{other_member}
use Rattle.setbytes.specs.Sets.{head_is}

-- ---- the first of rising members
head_above : (x : ℕ) {c n : ℕ} {ms : List ℤ} → Rising c n ms → x < c → head_is ms (pos x) ≡ false
unfolding head_is
head_above x none h = refl
head_above x (skip s) h = head_above x s (omega arith)
head_above x (keep {c = c} s) h = counts_differ c x (λ e. omega arith)

head_member : {c n : ℕ} {ms : List ℤ} → Rising c (suc n) ms → is_member ms (pos c) ≡ head_is ms (pos c)
unfolding is_member head_is
head_member (skip {c = c} s) = not_below c s (omega arith) ∙ sym (head_above c s (omega arith))
head_member (keep {c = c} s) = rw (same_self (pos c))

head_rising : {c n : ℕ} {ms : List ℤ} → Rising c (suc n) ms → (y : Bool) → y ≡ head_is ms (pos c) → Rising (suc c) n (drop (cond y 1 0) ms)
unfolding head_is
head_rising (skip {c = c} s) y q = let f : y ≡ false = q ∙ head_above c s (omega arith) in rw f s
head_rising (keep {c = c} s) y q = let f : y ≡ true = q ∙ same_self (pos c) in rw f s

head_bytes : (ok : ℤ → Bool) {c n : ℕ} {ms : List ℤ} → Rising c (suc n) ms → (y : Bool) → y ≡ head_is ms (pos c)
    → bit_bytes (drop (cond y 1 0) ms) (defined ok (suc c) n) ≡ bit_bytes ms (defined ok (suc c) n)
unfolding head_is
head_bytes ok (skip {c = c} s) y q = let f : y ≡ false = q ∙ head_above c s (omega arith) in rw f
head_bytes ok (keep {c = c} {n = n} {ms = ms} s) y q =
    let f : y ≡ true = q ∙ same_self (pos c) in
    rw f (sym (other_member ok c (suc c) n ms (omega arith)))

module _ (ok : ℤ → Bool) (at : ℕ) (bytes : List ℕ) (c n : ℕ) where
  step_taken : (ms : List ℤ) (y : Bool) → Rising c (suc n) ms → y ≡ head_is ms (pos c) → ok (pos c) ≡ true
      → put (set bytes (at + (c - 1)) (cond y 49 48)) (bit_places at (defined ok (suc c) n))
      (bit_bytes (drop (cond y 1 0) ms) (defined ok (suc c) n))
      ≡ put bytes (bit_places at (defined ok c (suc n))) (bit_bytes ms (defined ok c (suc n)))
  unfolding defined bit_places bit_bytes
  step_taken ms y r q a = rw (head_bytes ok r y q, a, head_member r, ← q)

  step_left : (ms : List ℤ) (y : Bool) → Rising c (suc n) ms → y ≡ head_is ms (pos c) → ok (pos c) ≡ false
      → put bytes (bit_places at (defined ok (suc c) n)) (bit_bytes (drop (cond y 1 0) ms) (defined ok (suc c) n))
      ≡ put bytes (bit_places at (defined ok c (suc n))) (bit_bytes ms (defined ok c (suc n)))
  unfolding defined
  step_left ms y r q a = rw (head_bytes ok r y q, a)

  blank_step_taken : ok (pos c) ≡ true
      → put (set bytes (at + (c - 1)) 32) (bit_places at (defined ok (suc c) n)) (spaces (length (bit_places at (defined ok (suc c) n))))
      ≡ put bytes (bit_places at (defined ok c (suc n))) (spaces (length (bit_places at (defined ok c (suc n)))))
  unfolding defined bit_places spaces
  blank_step_taken a = rw a

  blank_step_left : ok (pos c) ≡ false
      → put bytes (bit_places at (defined ok (suc c) n)) (spaces (length (bit_places at (defined ok (suc c) n))))
      ≡ put bytes (bit_places at (defined ok c (suc n))) (spaces (length (bit_places at (defined ok c (suc n)))))
  unfolding defined
  blank_step_left a = rw a

-- ---- what is left to put after i categories and j members
abbrev pub rest : (ℤ → Bool) → ℕ → ℕ → List ℕ → List ℤ → ℕ → ℕ → List ℕ
rest ok at w bytes ms i j = put bytes (bit_places at (defined ok (i + 1) (w - i))) (bit_bytes (drop j ms) (defined ok (i + 1) (w - i)))

abbrev pub rest_blank : (ℤ → Bool) → ℕ → ℕ → List ℕ → ℕ → List ℕ
rest_blank ok at w bytes i = put bytes (bit_places at (defined ok (i + 1) (w - i)))
    (spaces (length (bit_places at (defined ok (i + 1) (w - i)))))

-- some of the categories that are left are the members that are left
pub record Left (w i : ℕ) (ms : List ℤ) : Type 0 where
  pub rising : Rising (i + 1) (w - i) ms

module _ (ok : ℤ → Bool) (at w : ℕ) (bytes : List ℕ) (i : ℕ) (h : i < w) where
  last : w - i ≡ suc (w - (i + 1))
  last = omega arith

  here : i + 1 - 1 ≡ i
  here = omega arith

  module _ (ms : List ℤ) (j : ℕ) (y : Bool) (q : y ≡ head_is (drop j ms) (pos (i + 1))) (left : Left w i (drop j ms)) where
    pub left_on : Left w (i + 1) (drop (j + cond y 1 0) ms)
    left_on = record { rising = rw (← drop-drop (cond y 1 0) j ms, add-one (i + 1)) (head_rising (rw last at left.rising) y q) }

    pub taken : ok (pos (i + 1)) ≡ true → rest ok at w (set bytes (at + i) (cond y 49 48)) ms (i + 1) (j + cond y 1 0)
        ≡ rest ok at w bytes ms i j
    taken a =
        let s = step_taken ok at bytes (i + 1) (w - (i + 1)) (drop j ms) y (rw last at left.rising) q a in
        rw (last, add-one (i + 1), ← drop-drop (cond y 1 0) j ms) (rw here at s)

    pub passed : ok (pos (i + 1)) ≡ false → rest ok at w bytes ms (i + 1) (j + cond y 1 0) ≡ rest ok at w bytes ms i j
    passed a =
        rw (last, add-one (i + 1), ← drop-drop (cond y 1 0) j ms)
        (step_left ok at bytes (i + 1) (w - (i + 1)) (drop j ms) y (rw last at left.rising) q a)

  pub blank_taken : ok (pos (i + 1)) ≡ true → rest_blank ok at w (set bytes (at + i) 32) (i + 1) ≡ rest_blank ok at w bytes i
  blank_taken a = rw (last, add-one (i + 1)) (rw here at (blank_step_taken ok at bytes (i + 1) (w - (i + 1)) a))

  pub blank_passed : ok (pos (i + 1)) ≡ false → rest_blank ok at w bytes (i + 1) ≡ rest_blank ok at w bytes i
  blank_passed a = rw (last, add-one (i + 1)) (blank_step_left ok at bytes (i + 1) (w - (i + 1)) a)

pub done : (ok : ℤ → Bool) (at w i : ℕ) (bytes vs : List ℕ) → w ≤ i → put bytes (bit_places at (defined ok (i + 1) (w - i))) vs ≡ bytes
unfolding defined bit_places
done ok at w i bytes vs h = let e : w - i ≡ 0 = omega arith in rw e
