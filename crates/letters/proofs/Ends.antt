-- A text and the byte at its end.
-- Assumes nothing.
use mathlib.Core.Path.{◌≡◌, refl}
use mathlib.Core.Bool.{Bool, true, false, ◌&&◌}
use mathlib.Core.List.{List, [], ◌∷◌, ◌++◌}
use Prim.Native.Nat.{ℕ, suc, ◌-◌, ◌≤◌, ◌<◌}
use native.Mathlib.Omega.{arith}
use borrow.Author.Tests.{ne_eqb}
use lib.Dec.{eqb}
use lib.ListN.{length, get_or, take}
use lib.Seq.{take-suc}
use Rattle.fields.specs.rule.Number.{all_spaces}
use Rattle.fields.specs.rule.Field.{unended}

spaces_end : (x : List ℕ) → all_spaces (x ++ (32 ∷ [])) ≡ all_spaces x
unfolding all_spaces
spaces_end [] = refl
spaces_end (a ∷ x) = rw (spaces_end x)

spaces_not : (x : List ℕ) (b : ℕ) → (b ≡ 32 → ⊥) → all_spaces (x ++ (b ∷ [])) ≡ false
unfolding all_spaces
spaces_not [] b h = rw (ne_eqb _ _ h)
spaces_not (a ∷ x) b h = rw (spaces_not x b h) (no (eqb a 32))
  where
    no : (c : Bool) → c && false ≡ false
    no true = refl
    no false = refl

ends : (x : List ℕ) → unended (x ++ (32 ∷ [])) ≡ unended x
unfolding unended all_spaces
ends [] = refl
ends (a ∷ x) = rw (spaces_end x, ends x)

ends_not : (x : List ℕ) (b : ℕ) → (b ≡ 32 → ⊥) → unended (x ++ (b ∷ [])) ≡ x ++ (b ∷ [])
unfolding unended
ends_not [] b h = rw (spaces_not [] b h)
ends_not (a ∷ x) b h = rw (spaces_not (a ∷ x) b h, ends_not x b h)

-- the last of the first n bytes
module _ (s : List ℕ) (n : ℕ) (some : 0 < n) (few : n ≤ length s) where
  last : take n s ≡ take (n - 1) s ++ (get_or s (n - 1) 0 ∷ [])
  last = let e : n ≡ suc (n - 1) = omega arith in go n e few
    where
      go : (m : ℕ) → m ≡ suc (n - 1) → m ≤ length s → take m s ≡ take (n - 1) s ++ (get_or s (n - 1) 0 ∷ [])
      go m e h = rw e (take-suc s (n - 1) 0 (omega arith))

  pub space_unended : get_or s (n - 1) 0 ≡ 32 → unended (take n s) ≡ unended (take (n - 1) s)
  space_unended e = rw (last, e) (ends (take (n - 1) s))

  pub space_all : get_or s (n - 1) 0 ≡ 32 → all_spaces (take n s) ≡ all_spaces (take (n - 1) s)
  space_all e = rw (last, e) (spaces_end (take (n - 1) s))

  pub other_unended : (get_or s (n - 1) 0 ≡ 32 → ⊥) → unended (take n s) ≡ take n s
  other_unended h = rw last (ends_not (take (n - 1) s) (get_or s (n - 1) 0) h)

  pub other_all : (get_or s (n - 1) 0 ≡ 32 → ⊥) → all_spaces (take n s) ≡ false
  other_all h = rw last (spaces_not (take (n - 1) s) (get_or s (n - 1) 0) h)
