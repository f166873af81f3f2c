-- Which fault of the root's tag is named: the version's, else of two places of 51 the first.
use mathlib.Core.Path.{◌≡◌, refl}
use mathlib.Core.Bool.{Bool, true, false, cond, ◌&&◌}
use mathlib.Core.List.{List, [], ◌∷◌}
use Prim.Native.Nat.{ℕ}
use native.Mathlib.Omega.{arith}
use lib.Dec.{ltb, leb}
use borrow.Author.Tests.{ltb-true, ltb-false, lt-leb, le-leb}
use Rattle.tokens.specs.rule.Gap.{fault}
use Rattle.reading.specs.rule.Least.{Charge, ◌when◌, named, goes_before, clean, first, lower, least}

module _ (a u t : ℕ) where
  abbrev pub charges : Bool → Bool → Bool → List Charge
  charges w x y = fault 4 a when w ∷ fault 51 u when x ∷ fault 51 t when y ∷ []

  pub version_first : (x y : Bool) → least (named (charges true x y)) ≡ first (fault 4 a)
  unfolding least named lower goes_before
  version_first true true = by (leb u t) where
    by : (q : Bool) → lower (fault 4 a) (cond q (first (fault 51 u)) (first (fault 51 t))) ≡ first (fault 4 a)
    by true = refl
    by false = refl
  version_first true false = refl
  version_first false true = refl
  version_first false false = refl

  pub third_alone : least (named (charges false false true)) ≡ first (fault 51 t)
  unfolding least named lower goes_before
  third_alone = refl

  pub none : least (named (charges false false false)) ≡ clean
  unfolding least named lower goes_before
  none = refl

  pub third_first : (y : Bool) → (y && ltb t u) ≡ true → least (named (charges false true y)) ≡ first (fault 51 t)
  unfolding least named lower goes_before
  third_first true e = rw (lt-leb u t (ltb-true t u e))
  third_first false e = let z : ◌≡◌ {A = ℕ} 0 1 = cc in absurd (omega arith)

  pub unknown_first : (y : Bool) → (y && ltb t u) ≡ false → least (named (charges false true y)) ≡ first (fault 51 u)
  unfolding least named lower goes_before
  unknown_first true e = rw (le-leb u t (ltb-false t u e))
  unknown_first false e = refl
