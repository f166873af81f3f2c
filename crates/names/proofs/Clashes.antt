-- The first wrong row: here, further on, or none. The marks that names leave, by which rows with another name are mostly known at once.
use mathlib.Core.Path.{◌≡◌, refl, ◌∙◌, ap}
use mathlib.Core.Logic.{◌⊎◌, ⊎_elim}
use mathlib.Core.Bool.{Bool, true, false, cond, ◌||◌}
use mathlib.Core.List.{List}
use Prim.Native.Nat.{ℕ, suc, ◌+◌, ◌-◌, ◌%◌, ◌≤◌, ◌<◌}
use native.Mathlib.Nat.{eq-or-lt_of_le, mod-lt}
use native.Mathlib.Omega.{arith}
use lib.Dec.{eqb}
use lib.ListN.{get_or, set, length}
use lib.Seq.{get_or-set_same, get_or-set_other}
use borrow.Author.Tests.{eq-eqb, ne_eqb, eqb-true, eqb-false}
use Rattle.below.specs.rule.Below.{any_below}
use Rattle.below.specs.Below.{any_none, any_next, any_holds, any_fails}
use Rattle.names.specs.Clash.{wrong_at, fault_from}

module _ (keys : List ℕ) (count j : ℕ) where
  pub fault_here : j < count → wrong_at keys j ≡ true → fault_from keys (count - j) j ≡ j
  unfolding fault_from
  fault_here h e = let n : count - j ≡ suc (count - (j + 1)) = omega arith in rw (n, e)

  pub fault_on : j < count → wrong_at keys j ≡ false → fault_from keys (count - j) j ≡ fault_from keys (count - (j + 1)) (j + 1)
  unfolding fault_from
  fault_on h e = let n : count - j ≡ suc (count - (j + 1)) = omega arith in rw (n, e)

  pub fault_none : count ≤ j → fault_from keys (count - j) j ≡ j
  unfolding fault_from
  fault_none h = let n : count - j ≡ 0 = omega arith in rw n

or_true : (b : Bool) → (b || true) ≡ true
or_true true = refl
or_true false = refl

module _ (keys : List ℕ) (j : ℕ) where
  pub wrong_zero : get_or keys j 0 ≡ 0 → wrong_at keys j ≡ true
  unfolding wrong_at
  wrong_zero e = rw (eq-eqb (get_or keys j 0) 0 e)

  pub wrong_pair : (i : ℕ) → i < j → get_or keys i 0 ≡ get_or keys j 0 → wrong_at keys j ≡ true
  unfolding wrong_at
  wrong_pair i h e =
      rw (any_holds (λ i. eqb (get_or keys i 0) (get_or keys j 0)) j i h (eq-eqb (get_or keys i 0) (get_or keys j 0) e))
      (or_true (eqb (get_or keys j 0) 0))

  pub wrong_not : (get_or keys j 0 ≡ 0 → ⊥) → any_below j (λ i. eqb (get_or keys i 0) (get_or keys j 0)) ≡ false → wrong_at keys j ≡ false
  unfolding wrong_at
  wrong_not f e = rw (ne_eqb (get_or keys j 0) 0 f, e)

module _ (keys : List ℕ) (key : ℕ) where
  pub none_more : (i : ℕ) → any_below i (λ i. eqb (get_or keys i 0) key) ≡ false → (get_or keys i 0 ≡ key → ⊥)
      → any_below (i + 1) (λ i. eqb (get_or keys i 0) key) ≡ false
  none_more i e f = any_next (λ i. eqb (get_or keys i 0) key) i ∙ rw (e, ne_eqb (get_or keys i 0) key f)

-- ---- marks
-- where a name leaves its mark: names that agree at the same place
unfoldable pub place_of : ℕ → ℕ
place_of key = key % 2039

place_below : (key : ℕ) → place_of key < 2048
unfolding place_of
place_below key = let l : key % 2039 < 2039 = mod-lt key (omega arith) in omega arith

-- the rows before n have left their marks
pub record Marked (keys : List ℕ) (n : ℕ) (marks : List ℕ) : Type 0 where
  pub left : (i : ℕ) → i < n → get_or marks (place_of (get_or keys i 0)) 0 ≡ 1

module _ (keys marks : List ℕ) (j : ℕ) (m : Marked keys j marks) where
  -- row j is held against no row but those before it, and none that is left out has its name: where there is no mark, all are
  pub held : (cond (eqb (get_or marks (place_of (get_or keys j 0)) 0) 0) j 0 ≤ j)
      × (any_below (cond (eqb (get_or marks (place_of (get_or keys j 0)) 0) 0) j 0) (λ i. eqb (get_or keys i 0) (get_or keys j 0)) ≡ false)
  held = by (eqb (get_or marks (place_of (get_or keys j 0)) 0) 0) refl
    where
      other : get_or marks (place_of (get_or keys j 0)) 0 ≡ 0 → (i : ℕ) → i < j → get_or keys i 0 ≡ get_or keys j 0 → ⊥
      other z i h q =
          let a : get_or marks (place_of (get_or keys i 0)) 0 ≡ 0 = ap (λ (k : ℕ). get_or marks (place_of k) 0) q ∙ z in
          omega (arith, m.left i h)

      by : (b : Bool) → eqb (get_or marks (place_of (get_or keys j 0)) 0) 0 ≡ b
          → (cond b j 0 ≤ j) × (any_below (cond b j 0) (λ i. eqb (get_or keys i 0) (get_or keys j 0)) ≡ false)
      by true e = (omega arith, any_fails _ j (λ i h. ne_eqb (get_or keys i 0) (get_or keys j 0) (other (eqb-true _ 0 e) i h)))
      by false e = (omega arith, any_none _)

  -- one mark more
  pub marked_more : length marks ≡ 2048 → Marked keys (j + 1) (set marks (place_of (get_or keys j 0)) 1)
  marked_more l = record { left = λ i h. go i (eqb (place_of (get_or keys i 0)) (place_of (get_or keys j 0))) refl (each i h) }
    where
      each : (i : ℕ) → i < j + 1 → (i ≡ j) ⊎ (i < j)
      each i h = let g : i ≤ j = omega arith in eq-or-lt_of_le g

      go : (i : ℕ) (b : Bool) → eqb (place_of (get_or keys i 0)) (place_of (get_or keys j 0)) ≡ b → (i ≡ j) ⊎ (i < j)
          → get_or (set marks (place_of (get_or keys j 0)) 1) (place_of (get_or keys i 0)) 0 ≡ 1
      go i true q c =
          rw (eqb-true (place_of (get_or keys i 0)) (place_of (get_or keys j 0)) q)
          (get_or-set_same marks (place_of (get_or keys j 0)) 1 0 (omega (arith, l, place_below (get_or keys j 0))))
      go i false q c =
          ⊎_elim
          (λ p. absurd (eqb-false (place_of (get_or keys i 0)) (place_of (get_or keys j 0)) q
          (ap (λ (k : ℕ). place_of (get_or keys k 0)) p)))
          (λ h. get_or-set_other marks (place_of (get_or keys j 0)) (place_of (get_or keys i 0)) 1 0 (eqb-false _ _ q) ∙ m.left i h)
          c
