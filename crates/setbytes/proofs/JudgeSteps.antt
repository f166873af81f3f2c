-- One member more: the set may be written where the members from here on may.
use mathlib.Core.Path.{◌≡◌, refl}
use mathlib.Core.Bool.{Bool, true, false, ◌&&◌, and-false}
use mathlib.Core.List.{List, [], ◌∷◌}
use Prim.Native.Nat.{ℕ, suc, ◌+◌, ◌-◌, ◌≤◌, ◌<◌}
use native.Mathlib.Numerals.{add-one}
use native.Mathlib.Omega.{arith}
use borrow.Author.Tests.{lt-ltb, le-ltb, leb-true, leb-false}
use lib.IntN.{ℤ, pos, negsuc}
use lib.ListN.{length, drop, drop_of_length-le}
use lib.Seq.{drop-cons}
use lib.Signed.{le_z, lt_z}
use Rattle.below.specs.Below.{holds_not}
use Rattle.cells.specs.rule.Cell.{cell}
use Rattle.fields.specs.rule.Field.{rising_from, all_legal, set_fits}

not_rising : (a b : ℤ) → le_z b a ≡ true → lt_z a b ≡ false
not_rising (pos a) (pos b) e = le-ltb a b (leb-true b a e)
not_rising (pos a) (negsuc b) e = refl
not_rising (negsuc a) (pos b) e = holds_not e refl
not_rising (negsuc a) (negsuc b) e = le-ltb b a (leb-true a b e)

is_rising : (a b : ℤ) → le_z b a ≡ false → lt_z a b ≡ true
is_rising (pos a) (pos b) e = lt-ltb a b (leb-false b a e)
is_rising (pos a) (negsuc b) e = holds_not refl e
is_rising (negsuc a) (pos b) e = refl
is_rising (negsuc a) (negsuc b) e = lt-ltb b a (leb-false a b e)

fails : (x y : Bool) → x ≡ false → false ≡ (x && y)
fails true y e = holds_not refl e
fails false y e = refl

passes : (x y : Bool) → x ≡ true → y ≡ (x && y)
passes true y e = refl
passes false y e = holds_not e refl

pub not_good : (a b : ℤ) (y : Bool) → le_z b a ≡ true → false ≡ (lt_z a b && y)
not_good a b y e = fails (lt_z a b) y (not_rising a b e)

pub is_good : (a b : ℤ) (y : Bool) → le_z b a ≡ false → y ≡ (lt_z a b && y)
is_good a b y e = passes (lt_z a b) y (is_rising a b e)

-- the members after a: rising from a, and legal
unfoldable pub good_after : (ℤ → Bool) → ℤ → List ℤ → Bool
good_after ok a ms = rising_from a ms && all_legal ok ms

-- those from the member i on
abbrev pub good_from : (ℤ → Bool) → List ℤ → ℕ → Bool
good_from ok ms i = good_after ok (cell ms (i - 1)) (drop i ms)

module _ (ok : ℤ → Bool) where
  one_good : (a m : ℤ) (ms : List ℤ) → (lt_z a m && ok m) ≡ true → good_after ok a (m ∷ ms) ≡ good_after ok m ms
  unfolding good_after rising_from all_legal
  one_good a m ms e = go (lt_z a m) (ok m) e
    where
      go : (x y : Bool) → (x && y) ≡ true → ((x && rising_from m ms) && (y && all_legal ok ms)) ≡ (rising_from m ms && all_legal ok ms)
      go true true e = refl
      go true false e = holds_not e refl
      go false y e = holds_not e refl

  one_bad : (a m : ℤ) (ms : List ℤ) → (lt_z a m && ok m) ≡ false → good_after ok a (m ∷ ms) ≡ false
  unfolding good_after rising_from all_legal
  one_bad a m ms e = go (lt_z a m) (ok m) e
    where
      go : (x y : Bool) → (x && y) ≡ false → ((x && rising_from m ms) && (y && all_legal ok ms)) ≡ false
      go true true e = holds_not refl e
      go true false e = and-false (rising_from m ms)
      go false y e = refl

  module _ (ms : List ℤ) (i : ℕ) (h : i < length ms) where
    pub good_on : (lt_z (cell ms (i - 1)) (cell ms i) && ok (cell ms i)) ≡ true → good_from ok ms i ≡ good_from ok ms (i + 1)
    good_on e =
        let z : i + 1 - 1 ≡ i = omega arith in
        rw (drop-cons ms i (pos 0), z, add-one i) (one_good (cell ms (i - 1)) (cell ms i) (drop (suc i) ms) e)

    pub bad_on : (lt_z (cell ms (i - 1)) (cell ms i) && ok (cell ms i)) ≡ false → good_from ok ms i ≡ false
    bad_on e = rw (drop-cons ms i (pos 0)) (one_bad (cell ms (i - 1)) (cell ms i) (drop (suc i) ms) e)

  pub fits_none : (ms : List ℤ) → length ms ≡ 0 → set_fits ok ms ≡ true
  unfolding set_fits
  fits_none [] e = refl
  fits_none (m ∷ ms) e = absurd (omega arith)

  pub fits_bad : (ms : List ℤ) → 0 < length ms → ok (cell ms 0) ≡ false → set_fits ok ms ≡ false
  unfolding set_fits all_legal
  fits_bad [] h e = absurd (omega arith)
  fits_bad (m ∷ ms) h e = rw e (and-false (rising_from m ms))

  pub fits_first : (ms : List ℤ) → 0 < length ms → ok (cell ms 0) ≡ true → set_fits ok ms ≡ good_from ok ms 1
  unfolding set_fits all_legal good_after
  fits_first [] h e = absurd (omega arith)
  fits_first (m ∷ ms) h e = rw e

  pub good_end : (ms : List ℤ) (i : ℕ) → length ms ≤ i → good_from ok ms i ≡ true
  unfolding good_after rising_from all_legal
  good_end ms i h = rw (drop_of_length-le ms h)
