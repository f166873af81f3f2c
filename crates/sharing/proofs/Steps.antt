-- A walk over places: what is left to claim gives the answer for all.
use mathlib.Core.Path.{◌≡◌}
use mathlib.Core.Bool.{Bool, true, false}
use mathlib.Core.List.{List, [], ◌∷◌, ◌++◌}
use Prim.Native.Nat.{ℕ, suc, ◌+◌, ◌-◌, ◌*◌, ◌≤◌, ◌<◌}
use native.Mathlib.Nat.{sub-eq-zero_of_le, suc-mul}
use native.Mathlib.Numerals.{add-one}
use native.Mathlib.Omega.{arith}
use lib.IntN.{ℤ}
use Rattle.cells.specs.rule.Cell.{cell, count_of}
use Rattle.layout.specs.rule.Layout.{line_base}
use Rattle.places.specs.rule.Places.{run}
use Rattle.fields.specs.rule.Row.{spread_places}
use Rattle.sharing.specs.Claims.{Claimed, claim_none, claim_both, claim_stop}
use Rattle.sharing.specs.Known.{line_places}

-- whatever comes of claiming the places left, comes of claiming all
abbrev pub Onward : ℕ → List ℕ → List ℕ → List ℕ → List ℕ → Type 0
Onward own all s₀ left s = (s' : List ℕ) (r : Bool) → Claimed own left s s' r → Claimed own all s₀ s' r

module _ {own : ℕ} {all s₀ left s : List ℕ} (on : Onward own all s₀ left s) where
  pub on_step : (ps qs : List ℕ) {s₁ : List ℕ} {b : Bool} → left ≡ ps ++ qs → Claimed own ps s s₁ b → b ≡ true → Onward own all s₀ qs s₁
  on_step ps qs e c y s' r d = on s' r (rw e (claim_both (rw y at c) d))

  pub on_stop : (ps qs : List ℕ) {s₁ : List ℕ} {b : Bool} → left ≡ ps ++ qs → Claimed own ps s s₁ b → b ≡ false
      → Claimed own all s₀ s₁ false
  on_stop ps qs {s₁} e c y = on s₁ false (rw e (claim_stop qs (rw y at c)))

  pub on_end : left ≡ [] → Claimed own all s₀ s true
  on_end e = on s true (rw e (claim_none own s))

-- places behind places that were claimed, and behind some that were refused
pub after : {own : ℕ} {ps qs s s₁ s₂ : List ℕ} {b r : Bool} → Claimed own ps s s₁ b → b ≡ true → Claimed own qs s₁ s₂ r
    → Claimed own (ps ++ qs) s s₂ r
after c y d = claim_both (rw y at c) d

pub refused : {own : ℕ} {ps s s₁ : List ℕ} {b : Bool} (qs : List ℕ) → Claimed own ps s s₁ b → b ≡ false → Claimed own (ps ++ qs) s s₁ false
refused qs c y = claim_stop qs (rw y at c)

-- ---- the first of the places left, and the others
pub run_next : (p n : ℕ) → p < n → run p (n - p) ≡ (p ∷ []) ++ run (p + 1) (n - (p + 1))
run_next p n h = let e : n - p ≡ suc (n - (p + 1)) = omega arith in rw (e, add-one p)

pub run_end : (p n : ℕ) → n ≤ p → run p (n - p) ≡ []
run_end p n h = rw (sub-eq-zero_of_le h)

pub spread_next : (q b w k n : ℕ) → k < n → spread_places q b w (n - k) ≡ run (q + (b - w)) w ++ spread_places (q + b) b w (n - (k + 1))
unfolding spread_places
spread_next q b w k n h = let e : n - k ≡ suc (n - (k + 1)) = omega arith in rw e

-- the subfields behind the first lie inside too
pub spread_left : (q b k n m : ℕ) → k < n → q + (n - k) * b ≤ m → q + b + (n - (k + 1)) * b ≤ m
spread_left q b k n m h l =
    let e : n - k ≡ suc (n - (k + 1)) = omega arith in
    omega (arith, suc-mul (n - (k + 1)) b, rw e at l)

pub spread_end : (q b w k n : ℕ) → n ≤ k → spread_places q b w (n - k) ≡ []
unfolding spread_places
spread_end q b w k n h = rw (sub-eq-zero_of_le h)

module _ (p : ℕ) (t : List ℤ) (v before n : ℕ) where
  pub lines_next : (k : ℕ) → k < n
      → line_places p t v before k (n - k) ≡ ((p + (count_of (cell t (line_base v (before + k))) - 1)) ∷ [])
      ++ line_places p t v before (k + 1) (n - (k + 1))
  unfolding line_places
  lines_next k h = let e : n - k ≡ suc (n - (k + 1)) = omega arith in rw (e, add-one k)

  pub lines_end : (k : ℕ) → n ≤ k → line_places p t v before k (n - k) ≡ []
  unfolding line_places
  lines_end k h = rw (sub-eq-zero_of_le h)
