-- "A block in which every number is written with no digit before the point gets point code 2": 2 exactly when each number of the block is
-- so written, 0 exactly when none has a point.
use Rattle.std.specs.Prelude.{◌≡◌, refl, Bool, true, false, cond, ◌||◌, List, [], ◌∷◌, ℕ, eqb}
use Rattle.std.proofs.Common.{arith}
use Rattle.below.specs.Below.{and_left, and_right, and_true, holds_not}
use Rattle.survey.specs.rule.Survey.{Amount}
use Rattle.survey.specs.rule.Width.{some_of, each_of, bare, point_in}

-- each number of a list has a property
pub data Every (P : Amount → Type 0) : List Amount → Type 0 where
  none : Every P []
  more : {a : Amount} {l : List Amount} → P a → Every P l → Every P (a ∷ l)

abbrev pub IsBare : Amount → Type 0
IsBare a = bare a ≡ true

abbrev pub Pointless : Amount → Type 0
Pointless a = a.point ≡ false

each_every : (l : List Amount) → each_of bare l ≡ true → Every IsBare l
unfolding each_of
each_every [] e = none
each_every (a ∷ l) e = more (and_left (bare a) (each_of bare l) e) (each_every l (and_right (bare a) (each_of bare l) e))

every_each : {l : List Amount} → Every IsBare l → each_of bare l ≡ true
unfolding each_of
every_each none = refl
every_each (more {a} {l} h r) = and_true (bare a) (each_of bare l) h (every_each r)

none_every : (l : List Amount) → some_of (λ (a : Amount). a.point) l ≡ false → Every Pointless l
unfolding some_of
none_every [] e = none
none_every (a ∷ l) e = by a.point refl (none_every l) e where
  by : (p : Bool) → a.point ≡ p → (some_of (λ (a : Amount). a.point) l ≡ false → Every Pointless l)
      → (p || some_of (λ (a : Amount). a.point) l) ≡ false → Every Pointless (a ∷ l)
  by true q rest e = holds_not refl e
  by false q rest e = more q (rest e)

every_none : {l : List Amount} → Every Pointless l → some_of (λ (a : Amount). a.point) l ≡ false
unfolding some_of
every_none none = refl
every_none (more {a} {l} h r) = rw h (every_none r)

-- a bare number has a point
some_point : (x : Amount) (l : List Amount) → bare x ≡ true → some_of (λ (a : Amount). a.point) (x ∷ l) ≡ true
unfolding some_of
some_point x l e = rw (and_left x.point (eqb x.whole 0) e)

-- THE CODE IS 2 EXACTLY WHEN every number of the block is bare
pub code_two_exactly : (x : Amount) (l : List Amount)
    → (point_in (x ∷ l) ≡ 2 → Every IsBare (x ∷ l)) × (Every IsBare (x ∷ l) → point_in (x ∷ l) ≡ 2)
code_two_exactly x l = (λ e. to (some_of (λ (a : Amount). a.point) (x ∷ l)) (each_of bare (x ∷ l)) refl e, from)
  where
    to : (s b : Bool) → each_of bare (x ∷ l) ≡ b → ◌≡◌ {A = ℕ} (cond s (cond b 2 1) 0) 2 → Every IsBare (x ∷ l)
    to true true q e = each_every (x ∷ l) q
    to true false q e = absurd (omega arith)
    to false b q e = absurd (omega arith)

    first : Every IsBare (x ∷ l) → bare x ≡ true
    first (more h r) = h

    from : Every IsBare (x ∷ l) → point_in (x ∷ l) ≡ 2
    from q = rw (some_point x l (first q), every_each q)

-- THE CODE IS 0 EXACTLY WHEN no number of the block has a point
pub code_none_exactly : (l : List Amount) → (point_in l ≡ 0 → Every Pointless l) × (Every Pointless l → point_in l ≡ 0)
code_none_exactly l = (λ e. to (some_of (λ (a : Amount). a.point) l) (each_of bare l) refl e, λ h. rw (every_none h))
  where
    to : (s b : Bool) → some_of (λ (a : Amount). a.point) l ≡ s → ◌≡◌ {A = ℕ} (cond s (cond b 2 1) 0) 0 → Every Pointless l
    to true true q e = absurd (omega arith)
    to true false q e = absurd (omega arith)
    to false b q e = none_every l q
