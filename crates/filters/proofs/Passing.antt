-- Rows whose sums differ from that of a text are passed: none of them has the text as its name.
use mathlib.Core.Path.{◌≡◌, refl, sym, ◌∙◌}
use mathlib.Core.Logic.{◌⊎◌, ⊎_elim}
use mathlib.Core.Bool.{Bool, true, false, not, ◌&&◌}
use mathlib.Core.List.{List}
use Prim.Native.Nat.{ℕ, zero, suc, ◌+◌, ◌-◌, ◌≤◌, ◌<◌}
use native.Mathlib.Nat.{eq-or-lt_of_le}
use native.Mathlib.Omega.{arith}
use lib.Dec.{eqb, ltb}
use lib.IntN.{ℤ}
use lib.ListN.{get_or}
use borrow.Author.Tests.{eq-eqb, lt-ltb}
use Rattle.below.specs.rule.Below.{all_below}
use Rattle.below.specs.Below.{and_left, and_right}
use Rattle.survey.specs.rule.Survey.{KeptText}
use Rattle.xml_reading.specs.rule.Role.{same_name}
use Rattle.filters.specs.Code.{column_in, name_in, ServedSaid}
use Rattle.filters.specs.Sums.{sum_in, all_apart, Apart, Known}
use Rattle.filters.proofs.Asked.{none_served, CountFrom, count_no, FoundFrom, found_next}
use Rattle.filters.proofs.Summing.{sums_apart, rows_unserved}

module _ (sums : List ℕ) (sum count p : ℕ) where
  pub apart_none : p ≤ count → Apart sums sum count p p
  apart_none h = record { none = λ j a b. absurd (omega arith); on = omega arith; within = h }

  pub apart_next : (i : ℕ) → Apart sums sum count p i → i < count → (get_or sums i 0 ≡ sum → ⊥) → Apart sums sum count p (i + 1)
  apart_next i x h k =
      let o = x.on in
      record { none = λ j a b. by j a (eq-or-lt_of_le (le j b)); on = omega arith; within = omega arith } where
        le : (j : ℕ) → j < i + 1 → j ≤ i
        le j b = omega arith

        by : (j : ℕ) → p ≤ j → (j ≡ i) ⊎ (j < i) → get_or sums j 0 ≡ sum → ⊥
        by j a = ⊎_elim (λ q e. k (rw q at e)) (λ b e. x.none j a b e)

  -- some at once
  pub apart_wide : (i n : ℕ) → Apart sums sum count p i → i + n ≤ count → all_apart sums sum i n ≡ true → Apart sums sum count p (i + n)
  unfolding all_apart all_below
  apart_wide i zero x h e = let q : i + 0 ≡ i = omega arith in rw q x
  apart_wide i (suc n) x h e =
      let q : i + suc n ≡ i + n + 1 = omega arith in
      let f = all_below n (λ k. not (eqb (get_or sums (i + k) 0) sum)) in
      rw q (apart_next (i + n) (apart_wide i n x (omega arith) (and_left f _ e)) (omega arith)
      (λ z. never (eqb (get_or sums (i + n) 0) sum) (eq-eqb _ _ z) (and_right f _ e))) where
        never : (b : Bool) → b ≡ true → not b ≡ true → ⊥
        never true a e = let z : ◌≡◌ {A = ℕ} 0 1 = cc in omega arith
        never false a e = let z : ◌≡◌ {A = ℕ} 0 1 = cc in omega arith

module _ (latin standard : Bool) (d : List ℕ) (rows : List ℤ) (count : ℕ) (sums : List ℕ) (y : Known latin d rows count sums) (t : KeptText)
    (sum : ℕ) (is : sum ≡ sum_in latin d t) where
  unnamed : (p r : ℕ) → Apart sums sum count p r → (j : ℕ) → p ≤ j → j < r → false ≡ same_name latin standard d t (name_in rows j)
  unnamed p r x j a b =
      let w = x.within in
      sums_apart latin standard d t (name_in rows j) (λ z. x.none j a b (y.summing.names j (omega arith) ∙ z ∙ sym is))

  pub count_pass : (found p r : ℕ) → Apart sums sum count p r → CountFrom latin standard d rows count t found p
      → CountFrom latin standard d rows count t found r
  count_pass found p r x c = let o = x.on in let e : p + (r - p) ≡ r = omega arith in rw (← e) (go (r - p) (omega arith)) where
    go : (n : ℕ) → p + n ≤ r → CountFrom latin standard d rows count t found (p + n)
    go zero h = let e : p + 0 ≡ p = omega arith in rw e c
    go (suc n) h =
        let w = x.within in
        let e : p + suc n ≡ p + n + 1 = omega arith in
        rw e (count_no latin standard d rows count t found (p + n) (omega arith) (go n (omega arith))
        (unnamed p r x (p + n) (omega arith) (omega arith)))

  pub found_pass : (p r : ℕ) → Apart sums sum count p r → FoundFrom latin standard d rows count t p
      → FoundFrom latin standard d rows count t r
  found_pass p r x c = let o = x.on in let e : p + (r - p) ≡ r = omega arith in rw (← e) (go (r - p) (omega arith)) where
    go : (n : ℕ) → p + n ≤ r → FoundFrom latin standard d rows count t (p + n)
    go zero h = let e : p + 0 ≡ p = omega arith in rw e c
    go (suc n) h =
        let w = x.within in
        let e : p + suc n ≡ p + n + 1 = omega arith in
        rw e (found_next latin standard d rows count t (p + n) (omega arith) (go n (omega arith))
        (rw (← (unnamed p r x (p + n) (omega arith) (omega arith)))))

  -- where no row has the sum, none that has served has the name
  module _ (x : Apart sums sum count 0 count) where
    row_apart : (i : ℕ) → i < count → false
        ≡ (ltb 0 (column_in rows i 19) && same_name latin standard d t (name_in rows (column_in rows i 19 - 1)))
    row_apart i k = by (column_in rows i 19) refl where
      by : (f : ℕ) → column_in rows i 19 ≡ f → false
          ≡ (ltb 0 (column_in rows i 19) && same_name latin standard d t (name_in rows (column_in rows i 19 - 1)))
      by zero e = none_served _ _ e
      by (suc f) e =
          let l = y.lying.filters i k in
          rw (lt-ltb 0 (column_in rows i 19) (omega arith)) (unnamed 0 count x (column_in rows i 19 - 1) (omega arith) (omega arith))

    pub apart_unserved : ServedSaid latin standard d rows count t false
    apart_unserved = rows_unserved latin standard d rows count y.lying t row_apart
