-- Where an attribute leads: onward, and not beyond the end.
use mathlib.Core.Path.{◌≡◌, refl}
use mathlib.Core.Bool.{Bool, true, false, cond, ◌||◌}
use mathlib.Core.List.{List}
use Prim.Native.Nat.{ℕ, ◌+◌, ◌≤◌, ◌<◌}
use native.Mathlib.Omega.{arith}
use lib.Dec.{leb, eqb}
use lib.ListN.{length, drop, get_or}
use borrow.Author.Tests.{eqb-false}
use Rattle.markup.specs.rule.Bytes.{of_kind, starts_name, end_fault}
use Rattle.markup.specs.declared.Skip.{Skip}
use Rattle.markup.specs.declared.Skip.TheVariants.{Past, Broken}
use Rattle.utf.proofs.Strides.{apart}
use Rattle.markup.proofs.Runs.{run_long}
use Rattle.attributes.specs.rule.Attribute.{quoted_of, run_at, on_quoted, valued_of, equals_of, named_of, slash_of, behind_of, attribute_of}
use Rattle.attributes.specs.declared.Attribute.TheVariants.{One, Shut, Faulty}
use Rattle.attributes.proofs.Values.{quoted_sound}

-- an attribute behind `at`: white space up to its name, the name, then its value up to its quote, and the place behind that
pub record Found (d : List ℕ) (at n e v k next : ℕ) : Type 0 where
  pub spaced : at < n
  pub named : n ≤ e
  pub before : e < v
  pub valued : v ≤ k
  pub within : k < length d
  pub behind : next ≡ k + 1

run_on : (kind : ℕ) (d : List ℕ) (p : ℕ) → p ≤ run_at kind d p
run_on kind d p = omega (arith, run_long (of_kind kind) p (drop p d))

module _ (bad : Bool) (d : List ℕ) (opened : ℕ) where
  valued_one : (n e w : ℕ) {n' e' v k next : ℕ} → valued_of bad d opened n e w ≡ One n' e' v k next → (n' ≡ n) × (e' ≡ e) × (w < v)
      × (v ≤ k)
      × (k < length d) × (next ≡ k + 1)
  unfolding valued_of
  valued_one n e w {n'} {e'} {v} {k} {next} f = by (leb (length d) w) (eqb (get_or d w 0) 34 || eqb (get_or d w 0) 39) f where
    on : (r : Skip) → quoted_of bad opened (get_or d w 0) d (w + 1) ≡ r → on_quoted n e (w + 1) r ≡ One n' e' v k next → (n' ≡ n) × (e' ≡ e)
        × (w < v) × (v ≤ k) × (k < length d) × (next ≡ k + 1)
    on (Past j) g f =
        let i : v ≡ w + 1 = cc in
        let l : k ≡ j = cc in
        let m : next ≡ j + 1 = cc in
        let q = quoted_sound bad opened (get_or d w 0) d (w + 1) j g in
        let a = q.place in
        let b = q.within in
        (cc, cc, omega arith, omega arith, omega arith, omega arith)
    on (Broken p) g f = let z : ◌≡◌ {A = ℕ} 0 1 = cc in absurd (omega arith)

    by : (x y : Bool) → cond x (Faulty (end_fault bad w opened))
        (cond y (on_quoted n e (w + 1) (quoted_of bad opened (get_or d w 0) d (w + 1))) (Faulty w)) ≡ One n' e' v k next → (n' ≡ n)
        × (e' ≡ e)
        × (w < v) × (v ≤ k) × (k < length d) × (next ≡ k + 1)
    by true y f = let z : ◌≡◌ {A = ℕ} 0 1 = cc in absurd (omega arith)
    by false true f = on (quoted_of bad opened (get_or d w 0) d (w + 1)) refl f
    by false false f = let z : ◌≡◌ {A = ℕ} 0 1 = cc in absurd (omega arith)

  equals_one : (n e m : ℕ) {n' e' v k next : ℕ} → equals_of bad d opened n e m ≡ One n' e' v k next → (n' ≡ n) × (e' ≡ e) × (m < v)
      × (v ≤ k)
      × (k < length d) × (next ≡ k + 1)
  unfolding equals_of
  equals_one n e m {n'} {e'} {v} {k} {next} f = by (leb (length d) m) (eqb (get_or d m 0) 61) f where
    by : (x y : Bool) → cond x (Faulty (end_fault bad m opened)) (cond y (valued_of bad d opened n e (run_at 0 d (m + 1))) (Faulty m))
        ≡ One n' e' v k next → (n' ≡ n) × (e' ≡ e) × (m < v) × (v ≤ k) × (k < length d) × (next ≡ k + 1)
    by true y f = let z : ◌≡◌ {A = ℕ} 0 1 = cc in absurd (omega arith)
    by false true f =
        let r = valued_one n e (run_at 0 d (m + 1)) f in
        let o = run_on 0 d (m + 1) in
        let l = r.2 in
        (r.0, r.1, omega arith, r.3, r.4, r.5)
    by false false f = let z : ◌≡◌ {A = ℕ} 0 1 = cc in absurd (omega arith)

  named_one : (at n : ℕ) {n' e v k next : ℕ} → at < n → named_of bad d opened n ≡ One n' e v k next → Found d at n' e v k next
  unfolding named_of
  named_one at n {n'} {e} {v} {k} {next} h f =
      let r = equals_one n (run_at 1 d n) (run_at 0 d (run_at 1 d n)) f in
      let a = r.0 in
      let b = r.1 in
      let o = run_on 1 d n in
      let q = run_on 0 d (run_at 1 d n) in
      let l = r.2 in
      record { spaced = rw a h; named = rw (a, b) o; before = rw b (omega arith); valued = r.3; within = r.4; behind = r.5 }

  pub slash_one : (n : ℕ) {n' e v k next : ℕ} → slash_of bad d opened n ≡ One n' e v k next → ⊥
  unfolding slash_of
  slash_one n {n'} {e} {v} {k} {next} f = by (leb (length d) (n + 1)) (eqb (get_or d (n + 1) 0) 62) f where
    by : (x y : Bool) → cond x (Faulty (end_fault bad n opened)) (cond y (Shut true n (n + 2)) (Faulty n)) ≡ One n' e v k next → ⊥
    by true y f = let z : ◌≡◌ {A = ℕ} 0 1 = cc in omega arith
    by false true f = let z : ◌≡◌ {A = ℕ} 0 1 = cc in omega arith
    by false false f = let z : ◌≡◌ {A = ℕ} 0 1 = cc in omega arith

  behind_one : (at n : ℕ) {n' e v k next : ℕ} → at ≤ n → behind_of bad d opened at n ≡ One n' e v k next → Found d at n' e v k next
  unfolding behind_of
  behind_one at n {n'} {e} {v} {k} {next} h f = by (leb (length d) n) (eqb (get_or d n 0) 62) (eqb (get_or d n 0) 47) (eqb n at)
      (starts_name (get_or d n 0)) refl f where
        by : (p q r s t : Bool) → eqb n at ≡ s
            → cond p (Faulty (end_fault bad n opened))
            (cond q (Shut false n (n + 1)) (cond r (slash_of bad d opened n)
            (cond s (Faulty n) (cond t (named_of bad d opened n) (Faulty n))))) ≡ One n' e v k next
            → Found d at n' e v k next
        by true q r s t g f = let z : ◌≡◌ {A = ℕ} 0 1 = cc in absurd (omega arith)
        by false true r s t g f = let z : ◌≡◌ {A = ℕ} 0 1 = cc in absurd (omega arith)
        by false false true s t g f = absurd (slash_one n f)
        by false false false true t g f = let z : ◌≡◌ {A = ℕ} 0 1 = cc in absurd (omega arith)
        by false false false false true g f = named_one at n (apart at n h (eqb-false n at g)) f
        by false false false false false g f = let z : ◌≡◌ {A = ℕ} 0 1 = cc in absurd (omega arith)

  pub attribute_one : (at : ℕ) {n e v k next : ℕ} → attribute_of bad d opened at ≡ One n e v k next → Found d at n e v k next
  unfolding attribute_of
  attribute_one at f = behind_one at (run_at 0 d at) (run_on 0 d at) f
