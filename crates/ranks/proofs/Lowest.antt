-- The fault that counts is the lowest, and there is no other.
use mathlib.Core.Path.{◌≡◌, refl, sym, ap, ◌∙◌}
use mathlib.Core.Logic.{◌↔◌, ◌⊎◌, inl, inr, ⊎_elim}
use mathlib.Core.Bool.{Bool, true, false, cond, ◌&&◌, ◌||◌}
use mathlib.Core.List.{List, [], ◌∷◌}
use Prim.Native.Nat.{ℕ, ◌+◌, ◌≤◌, ◌<◌}
use native.Mathlib.Omega.{arith}
use lib.Dec.{ltb, eqb}
use borrow.Author.Tests.{eq-eqb, ne_eqb, eqb-true, eqb-false, ltb-true, ltb-false, lt-ltb, le-ltb}
use Rattle.ranks.specs.rule.Rank.{none_found, precedes, lower_found, lowest_of, Among, here, later, Lowest}
use Rattle.ranks.specs.declared.Found.{Found}

apart : (m n : ℕ) → m ≤ n → (n ≡ m → ⊥) → m < n
apart m n h k = by (ltb m n) refl where
  by : (q : Bool) → ltb m n ≡ q → m < n
  by true e = ltb-true m n e
  by false e = let i = ltb-false m n e in absurd (k (omega arith))

-- a stands before b, or with it
abbrev pub Below : Found → Found → Type 0
Below a b = (a.number < b.number) ⊎ ((a.number ≡ b.number) × (a.place ≤ b.place))

pub below_of : (a b : Found) → precedes b a ≡ false → Below a b
unfolding precedes
below_of a b e = by (ltb b.number a.number) (eqb b.number a.number) (ltb b.place a.place) refl refl refl e where
  by : (x y z : Bool) → ltb b.number a.number ≡ x → eqb b.number a.number ≡ y → ltb b.place a.place ≡ z → (x || (y && z))
      ≡ false → Below a b
  by true y z f g h e = let t : ◌≡◌ {A = ℕ} 0 1 = cc in absurd (omega arith)
  by false true true f g h e = let t : ◌≡◌ {A = ℕ} 0 1 = cc in absurd (omega arith)
  by false true false f g h e = inr (sym (eqb-true b.number a.number g), ltb-false b.place a.place h)
  by false false z f g h e = inl (apart a.number b.number (ltb-false b.number a.number f) (eqb-false b.number a.number g))

of_below : (a b : Found) → Below a b → precedes b a ≡ false
unfolding precedes
of_below a b = ⊎_elim (λ h. rw (le-ltb b.number a.number (omega arith), ne_eqb b.number a.number (λ e. omega arith)))
    (λ h. let e = h.0 in let k = h.1 in rw (
      le-ltb b.number a.number (omega arith),
      eq-eqb b.number a.number (sym e),
      le-ltb b.place a.place k,
    ))

pub below_join : (a b c : Found) → Below a b → Below b c → Below a c
below_join a b c x y =
    ⊎_elim (λ h. ⊎_elim (λ k. inl (omega arith)) (λ k. let e = k.0 in inl (omega arith)) y)
    (λ h. let e = h.0 in let f = h.1 in ⊎_elim (λ k. inl (omega arith))
    (λ k. let i = k.0 in let j = k.1 in inr (omega arith, omega arith)) y) x

pub turned : (a b : Found) → precedes b a ≡ true → Below b a
unfolding precedes
turned a b e = by (ltb b.number a.number) (eqb b.number a.number) (ltb b.place a.place) refl refl refl e where
  by : (x y z : Bool) → ltb b.number a.number ≡ x → eqb b.number a.number ≡ y → ltb b.place a.place ≡ z → (x || (y && z))
      ≡ true → Below b a
  by true y z f g h e = inl (ltb-true b.number a.number f)
  by false true true f g h e = let k = ltb-true b.place a.place h in inr (eqb-true b.number a.number g, omega arith)
  by false true false f g h e = let t : ◌≡◌ {A = ℕ} 0 1 = cc in absurd (omega arith)
  by false false z f g h e = let t : ◌≡◌ {A = ℕ} 0 1 = cc in absurd (omega arith)

below_same : (a : Found) → Below a a
below_same a = inr (refl, omega arith)

-- what the fold over a list holds of it: nothing where all are none, else a fault that stands below all
data Held (s : List Found) (f : Found) : Type 0 where
  nothing : f.number ≡ 0 → ((g : Found) → Among g s → g.number ≡ 0) → Held s f
  lowest : Among f s → (f.number ≡ 0 → ⊥) → ((g : Found) → Among g s → (g.number ≡ 0 → ⊥) → Below f g) → Held s f

among_nil : {g : Found} {s : List Found} → Among g s → s ≡ [] → ⊥
among_nil here e = let z : ◌≡◌ {A = ℕ} 0 1 = cc in omega arith
among_nil (later m) e = let z : ◌≡◌ {A = ℕ} 0 1 = cc in omega arith

each_of : {a : Found} {s : List Found} (P : Found → Type 0) → P a → ((g : Found) → Among g s → P g) → (g : Found) → Among g (a ∷ s) → P g
each_of P x f g here = x
each_of P x f g (later m) = f g m

module _ (a : Found) (s : List Found) where
  -- a is none
  keep_rest : (m : Found) → a.number ≡ 0 → Held s m → Held (a ∷ s) m
  keep_rest m z (nothing e f) = nothing e (each_of (λ g. g.number ≡ 0) z f)
  keep_rest m z (lowest x y f) = lowest (later x) y (each_of (λ g. (g.number ≡ 0 → ⊥) → Below m g) (λ n. absurd (n z)) f)

  -- the others are none
  alone : (m : Found) → (a.number ≡ 0 → ⊥) → m.number ≡ 0 → Held s m → Held (a ∷ s) a
  alone m n z (nothing e f) = lowest here n (each_of (λ g. (g.number ≡ 0 → ⊥) → Below a g) (λ k. below_same a)
      (λ g i k. absurd (k (f g i))))
  alone m n z (lowest x y f) = absurd (y z)

  take_rest : (m : Found) → (m.number ≡ 0 → ⊥) → Below m a → Held s m → Held (a ∷ s) m
  take_rest m n b (nothing e f) = absurd (n e)
  take_rest m n b (lowest x y f) = lowest (later x) y (each_of (λ g. (g.number ≡ 0 → ⊥) → Below m g) (λ k. b) f)

  take_first : (m : Found) → (a.number ≡ 0 → ⊥) → (m.number ≡ 0 → ⊥) → Below a m → Held s m → Held (a ∷ s) a
  take_first m n k b (nothing e f) = absurd (k e)
  take_first m n k b (lowest x y f) = lowest here n
      (each_of (λ g. (g.number ≡ 0 → ⊥) → Below a g) (λ i. below_same a) (λ g i j. below_join a m g b (f g i j)))

  one_more : (m : Found) → Held s m → Held (a ∷ s) (lower_found a m)
  unfolding lower_found
  one_more m h = by (eqb a.number 0) (eqb m.number 0) (precedes m a) refl refl refl where
    by : (x y z : Bool) → eqb a.number 0 ≡ x → eqb m.number 0 ≡ y → precedes m a ≡ z → Held (a ∷ s) (cond x m (cond y a (cond z m a)))
    by true y z e f g = keep_rest m (eqb-true a.number 0 e) h
    by false true z e f g = alone m (eqb-false a.number 0 e) (eqb-true m.number 0 f) h
    by false false true e f g = take_rest m (eqb-false m.number 0 f) (turned a m g) h
    by false false false e f g = take_first m (eqb-false a.number 0 e) (eqb-false m.number 0 f) (below_of a m g) h

held : (s : List Found) → Held s (lowest_of s)
unfolding lowest_of
held [] = nothing refl (λ g m. absurd (among_nil m refl))
held (a ∷ s) = one_more a s (lowest_of s) (held s)

abbrev made : ℕ → ℕ → Found
made n p = record { number = n; place = p }

pub same : (a b : Found) → Below a b → Below b a → a ≡ b
same a b x y = of (number x y) (place x y) where
  number : Below a b → Below b a → a.number ≡ b.number
  number x y = ⊎_elim (λ h. ⊎_elim (λ k. absurd (omega arith)) (λ k. let e = k.0 in absurd (omega arith)) y) (λ h. h.0) x

  place : Below a b → Below b a → a.place ≡ b.place
  place x y =
      ⊎_elim (λ h. ⊎_elim (λ k. absurd (omega arith)) (λ k. let e = k.0 in absurd (omega arith)) y)
      (λ h. let i = h.0 in let j = h.1 in ⊎_elim (λ k. absurd (omega arith)) (λ k. let l = k.1 in omega arith) y) x

  of : a.number ≡ b.number → a.place ≡ b.place → a ≡ b
  of e f = ap (λ (n : ℕ). made n a.place) e ∙ ap (λ (p : ℕ). made b.number p) f

module _ (s : List Found) (f : Found) (fault : f.number ≡ 0 → ⊥) where
  sound : lowest_of s ≡ f → Lowest s f
  sound e = by (rw e at (held s)) where
    by : Held s f → Lowest s f
    by (nothing z all) = absurd (fault z)
    by (lowest x y z) = record { among = x; fault = y; least = λ g m n. of_below f g (z g m n) }

  complete : Lowest s f → lowest_of s ≡ f
  complete l = by (held s) where
    by : Held s (lowest_of s) → lowest_of s ≡ f
    by (nothing z all) = absurd (fault (all f l.among))
    by (lowest x y z) = same (lowest_of s) f (z f l.among fault) (below_of f (lowest_of s) (l.least (lowest_of s) x y))

-- RANKED: of the faults of a statement f is answered exactly when it is one of them and none comes before it, by number and then by place
pub ranked_lowest : (s : List Found) (f : Found) → (f.number ≡ 0 → ⊥) → (lowest_of s ≡ f) ↔ Lowest s f
ranked_lowest s f n = (sound s f n, complete s f n)

-- and none is exactly when there is none
pub ranked_none : (s : List Found) → ((lowest_of s).number ≡ 0) ↔ ((g : Found) → Among g s → g.number ≡ 0)
ranked_none s = (λ e. by (held s) e, λ all. back (held s) all) where
  by : Held s (lowest_of s) → (lowest_of s).number ≡ 0 → (g : Found) → Among g s → g.number ≡ 0
  by (nothing z all) e = all
  by (lowest x y z) e = absurd (y e)

  back : Held s (lowest_of s) → ((g : Found) → Among g s → g.number ≡ 0) → (lowest_of s).number ≡ 0
  back (nothing z all) h = z
  back (lowest x y z) h = h (lowest_of s) x
