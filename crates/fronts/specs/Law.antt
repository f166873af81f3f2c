-- What the loop over the heading keeps, and the place behind it.
use Rattle.std.specs.Prelude.{◌≡◌, refl, Bool, true, false, cond, List, eqb}
use Rattle.std.proofs.Common.{◌∙◌}
use Prim.Native.Nat.{ℕ, zero, suc, ◌+◌, ◌-◌, ◌≤◌, ◌<◌}
use native.Mathlib.Omega.{arith}
use borrow.Author.Tests.{eq-eqb, ne_eqb, eqb-true, eqb-false}
use Rattle.below.specs.Below.{holds_not}
use Rattle.statements.specs.rule.Words.{DATE, TIME, ORIGIN, USER, STANDARD}
use Rattle.steps.specs.declared.Found.{Found}
use Rattle.steps.specs.Step.{statement_found}
use Rattle.fronts.specs.declared.Item.{Item}
use Rattle.fronts.specs.Front.{item, found, item_at, item_past, item_found, met_by, ended_by}

-- ---- the place behind the heading: no statement of it begins there
no_item : (n a b c e f : ℕ) (p q r s t : Bool)
    → (let i = cond p (item 0 a) (cond q (item 1 b) (cond r (item 2 c) (cond s (item 3 e) (cond t (item 4 f) (item 5 n))))) in
    i.which ≡ 5 → i.next ≡ n)
no_item n a b c e f true q r s t h = absurd (omega arith)
no_item n a b c e f false true r s t h = absurd (omega arith)
no_item n a b c e f false false true s t h = absurd (omega arith)
no_item n a b c e f false false false true t h = absurd (omega arith)
no_item n a b c e f false false false false true h = absurd (omega arith)
no_item n a b c e f false false false false false h = refl

module _ (d : List ℕ) where
  five : (n : ℕ) → (item_at d n).which ≡ 5 → (item_at d n).next ≡ n
  unfolding item_at
  five n = no_item n (statement_found d n DATE).next (statement_found d n TIME).next (statement_found d n ORIGIN).next
      (statement_found d n USER).next (statement_found d n STANDARD).next (statement_found d n DATE).there
      (statement_found d n TIME).there (statement_found d n ORIGIN).there (statement_found d n USER).there
      (statement_found d n STANDARD).there

  pub five_next : (n : ℕ) (i : Item) → i ≡ item_at d n → i.which ≡ 5 → i.next ≡ n
  five_next n i a u = rw a (five n (rw a at u))

  pub heading_over : (f n : ℕ) → (item_found f d n 5).there ≡ true → (item_at d (item_found f d n 5).next).which ≡ 5
  unfolding item_found
  heading_over zero n t = holds_not t refl
  heading_over (suc f) n t = by (eqb (item_at d n).which 5) refl (heading_over f (item_past d (item_at d n))) t where
    by : (q : Bool) → eqb (item_at d n).which 5 ≡ q
        → ((item_found f d (item_past d (item_at d n)) 5).there ≡ true
        → (item_at d (item_found f d (item_past d (item_at d n)) 5).next).which ≡ 5)
        → (let r = cond q (found true (item_at d n).next) (cond q (found false n) (item_found f d (item_past d (item_at d n)) 5)) in
        r.there ≡ true → (item_at d r.next).which ≡ 5)
    by true e ih t = let w = eqb-true (item_at d n).which 5 e in rw (five n w) w
    by false e ih t = ih t

  -- what a search for the others is told
  pub stopped : (start k : ℕ) (r : Found) → k < 5 → r ≡ item_found 6 d start 5 → r.there ≡ true
      → (k < 5) × ((item_at d r.next).which ≡ 5)
  stopped start k r h e t =
      let u : (item_found 6 d start 5).there ≡ true = rw e at t in
      (h, rw e (heading_over 6 start u))

module _ (d : List ℕ) (j n k : ℕ) where
  pub items_stop : j < 6 → k < 5 → (item_at d n).which ≡ 5 → item_found (6 - j) d n k ≡ found false n
  unfolding item_found
  items_stop h g u =
      let q : 6 - j ≡ suc (6 - (j + 1)) = omega arith in
      rw (q, ne_eqb (item_at d n).which k (λ e. omega (arith, e, u)), eq-eqb (item_at d n).which 5 u)

  pub items_out : 6 ≤ j → item_found (6 - j) d n k ≡ found false n
  unfolding item_found
  items_out h = let q : 6 - j ≡ 0 = omega arith in rw q

  module _ (h : j < 6) (i : Item) (a : i ≡ item_at d n) where
    pub items_done : i.which ≡ k → item_found (6 - j) d n k ≡ found true i.next
    unfolding item_found
    items_done t = let q : 6 - j ≡ suc (6 - (j + 1)) = omega arith in rw (q, ← a, eq-eqb i.which k t)

    pub items_none : (i.which ≡ k → ⊥) → i.which ≡ 5 → item_found (6 - j) d n k ≡ found false n
    unfolding item_found
    items_none t u = let q : 6 - j ≡ suc (6 - (j + 1)) = omega arith in rw (q, ← a, ne_eqb i.which k t, eq-eqb i.which 5 u)

    pub items_more : (i.which ≡ k → ⊥) → (i.which ≡ 5 → ⊥) → item_found (6 - j) d n k ≡ item_found (6 - (j + 1)) d (item_past d i) k
    unfolding item_found
    items_more t u = let q : 6 - j ≡ suc (6 - (j + 1)) = omega arith in rw (q, ← a, ne_eqb i.which k t, ne_eqb i.which 5 u)

-- ---- one walk for them all: what is found is what was met, or what is found from here on
module _ (d : List ℕ) (j n k : ℕ) (whole f : Found) (e : whole ≡ cond f.there f (item_found (6 - j) d n k)) where
  pub met_out : 6 ≤ j → whole ≡ ended_by f n
  met_out h = rw (items_out d j n k h) at e

  module _ (h : j < 6) (i : Item) (a : i ≡ item_at d n) where
    pub met_none : k < 5 → i.which ≡ 5 → whole ≡ ended_by f n
    met_none g u = rw (items_none d j n k h i a (λ t. omega (arith, t, u)) u) at e

    pub met_more : (m : ℕ) → m ≡ item_past d i → (i.which ≡ 5 → ⊥) → whole
        ≡ cond (met_by f k i).there (met_by f k i) (item_found (6 - (j + 1)) d m k)
    met_more m p u = by f.there (eqb i.which k) refl refl where
      by : (b q : Bool) → f.there ≡ b → eqb i.which k ≡ q → whole
          ≡ cond (met_by f k i).there (met_by f k i) (item_found (6 - (j + 1)) d m k)
      by true q t r = rw t (rw t at e)
      by false true t r = rw (t, r) (rw t at e ∙ items_done d j n k h i a (eqb-true i.which k r))
      by false false t r = rw (t, r, p) (rw t at e ∙ items_more d j n k h i a (eqb-false i.which k r) u)
