-- A bitstring's bytes and members that a loop has yet to come to, at byte i: one step, by whether the row allows category i + 1.
-- Assumes nothing.
use mathlib.Core.Path.{◌≡◌, refl, ap}
use mathlib.Core.Bool.{Bool, true, false, cond}
use mathlib.Core.List.{List, [], ◌∷◌}
use Prim.Native.Nat.{ℕ, suc, ◌+◌, ◌-◌, ◌≤◌, ◌<◌}
use native.Mathlib.Omega.{arith}
use native.Mathlib.Numerals.{add-one}
use native.Mathlib.Nat.{sub-eq-zero_of_le}
use borrow.Author.Tests.{eq-eqb, ne_eqb, eqb-true, eqb-false}
use lib.Dec.{eqb}
use lib.IntN.{ℤ, pos}
use lib.ListN.{length, get_or}
use Rattle.places.specs.rule.Places.{pick}
use Rattle.fields.specs.rule.Field.{set_bits}
use Rattle.fields.specs.rule.Row.{defined, bit_places}

-- the categories, their bytes and the members from byte i on
abbrev pub rest_of : (ℤ → Bool) → ℕ → ℕ → List ℕ
rest_of ok w i = defined ok (suc i) (w - i)

abbrev pub rest_bytes : (ℤ → Bool) → ℕ → List ℕ → ℕ → ℕ → List ℕ
rest_bytes ok w r at i = pick r (bit_places at (rest_of ok w i))

abbrev pub rest_set : (ℤ → Bool) → ℕ → List ℕ → ℕ → ℕ → List ℤ
rest_set ok w r at i = set_bits (rest_of ok w i) (rest_bytes ok w r at i)

place : (at i : ℕ) → at + (suc i - 1) ≡ at + i
place at i = omega arith

module _ (ok : ℤ → Bool) (w : ℕ) (i : ℕ) (h : i < w) where
  more : w - i ≡ suc (w - (i + 1))
  more = omega arith

  pub allowed : ok (pos (i + 1)) ≡ true → rest_of ok w i ≡ suc i ∷ rest_of ok w (i + 1)
  unfolding defined
  allowed e = let e' : ok (pos (suc i)) ≡ true = rw add-one at e in rw (more, e', add-one i)

  pub passed : ok (pos (i + 1)) ≡ false → rest_of ok w i ≡ rest_of ok w (i + 1)
  unfolding defined
  passed e = let e' : ok (pos (suc i)) ≡ false = rw add-one at e in rw (more, e', add-one i)

  module _ (r : List ℕ) (at : ℕ) where
    pub byte : ok (pos (i + 1)) ≡ true → rest_bytes ok w r at i ≡ get_or r (at + i) 0 ∷ rest_bytes ok w r at (i + 1)
    unfolding bit_places
    byte e = rw (allowed e, place at i)

    pub no_byte : ok (pos (i + 1)) ≡ false → rest_bytes ok w r at i ≡ rest_bytes ok w r at (i + 1)
    no_byte e = rw (passed e)

    pub member : ok (pos (i + 1)) ≡ true → get_or r (at + i) 0 ≡ 49 → rest_set ok w r at i ≡ pos (i + 1) ∷ rest_set ok w r at (i + 1)
    unfolding set_bits
    member e q = rw (byte e, allowed e, eq-eqb _ _ q, add-one i)

    pub no_member : ok (pos (i + 1)) ≡ true → (get_or r (at + i) 0 ≡ 49 → ⊥) → rest_set ok w r at i ≡ rest_set ok w r at (i + 1)
    unfolding set_bits
    no_member e q = rw (byte e, allowed e, ne_eqb _ _ q)

    pub no_set : ok (pos (i + 1)) ≡ false → rest_set ok w r at i ≡ rest_set ok w r at (i + 1)
    no_set e = rw (passed e)

    pub count_more : ok (pos (i + 1)) ≡ true
        → length (rest_set ok w r at i) ≡ cond (eqb (get_or r (at + i) 0) 49) 1 0 + length (rest_set ok w r at (i + 1))
    count_more e = go (eqb (get_or r (at + i) 0) 49) refl
      where
        go : (b : Bool) → eqb (get_or r (at + i) 0) 49 ≡ b → length (rest_set ok w r at i) ≡ cond b 1 0
            + length (rest_set ok w r at (i + 1))
        go true q = let l = ap length (member e (eqb-true _ _ q)) in omega arith
        go false q = let l = ap length (no_member e (eqb-false _ _ q)) in omega arith

-- a byte counts at most once
pub few_bit : (n b : ℕ) → n ≡ cond (eqb b 49) 1 0 → n ≤ 1
few_bit n b e = go (eqb b 49) e
  where
    go : (t : Bool) → n ≡ cond t 1 0 → n ≤ 1
    go true q = omega arith
    go false q = omega arith

-- all counted, where none is left
pub count_whole : (n l m : ℕ) → n + l ≡ m → l ≡ 0 → n ≡ m
count_whole n l m e z = omega arith

pub no_more : (ok : ℤ → Bool) (w i : ℕ) → w ≤ i → rest_of ok w i ≡ []
unfolding defined
no_more ok w i h = rw (sub-eq-zero_of_le h)

pub set_end : (ok : ℤ → Bool) (w : ℕ) (r : List ℕ) (at i : ℕ) → w ≤ i → rest_set ok w r at i ≡ []
unfolding set_bits
set_end ok w r at i h = rw (no_more ok w i h)
