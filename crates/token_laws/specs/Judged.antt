-- "A statement is judged once read .. then 4 to 8 by lowest number, equal numbers by earlier place": the faults that a statement can have,
-- each with its number and its place, and that the one that is named is the least of those that hold. Here for POSITION, SPREAD and SIZE.
use Rattle.std.specs.Prelude.{◌↔◌, ◌≡◌, Bool, cond, List, ℕ, ◌≤◌, ◌<◌, ◌%◌, ◌/◌, Ok, Err}
use Rattle.std.proofs.Math.Path.{refl}
use Rattle.std.proofs.Common.{ap}
use Rattle.std.proofs.Math.Bool.{true, false}
use native.Mathlib.Omega.{arith}
use Rattle.std.proofs.Math.Dec.{eqb, ltb}
use borrow.Author.Tests.{eqb-true, eqb-false, ltb-true, ltb-false}
use Rattle.tokens.specs.declared.Fault.{Fault}
use Rattle.tokens.specs.declared.Figures.{Figures}
use Rattle.tokens.specs.rule.Gap.{fault, OrFault}
use Rattle.statements.specs.Position.{true_of, below_of, judge_position}
use Rattle.statements.specs.Spread.{judge_of, judge_even}
use Rattle.statements.specs.Size.{judge_size}
use Rattle.statements.specs.declared.Position.{Position}
use Rattle.statements.specs.declared.Subfields.{Subfields}

-- ---- the words
-- a fault comes before another: it has a lower number, or the same and no later place
pub data Before (f g : Fault) : Type 0 where
  lower : f.number < g.number → Before f g
  earlier : f.number ≡ g.number → f.place ≤ g.place → Before f g

-- the least of the faults that hold: it holds, and comes before every one
pub record Least (Holds : Fault → Type 0) (f : Fault) : Type 0 where
  pub holds : Holds f
  pub first : (g : Fault) → Holds g → Before f g

-- what judging answers: that all is good, where no fault holds; else the least
pub data Says (Holds : Fault → Type 0) {A : Type 0} (good : A) (not : Fault → A) : A → Type 0 where
  stands : ((f : Fault) → Holds f → ⊥) → Says Holds good not good
  refused : {f : Fault} → Least Holds f → Says Holds good not (not f)

-- two least faults are one
pub least_once : {Holds : Fault → Type 0} {f g : Fault} → Least Holds f → Least Holds g → (f.number ≡ g.number) × (f.place ≡ g.place)
least_once {f = f} {g = g} l m = by (l.first g m.holds) (m.first f l.holds) where
  by : Before f g → Before g f → (f.number ≡ g.number) × (f.place ≡ g.place)
  by (lower a) (lower b) = absurd (omega arith)
  by (lower a) (earlier b c) = absurd (omega arith)
  by (earlier a b) (lower c) = absurd (omega arith)
  by (earlier a b) (earlier c e) = (a, omega arith)

-- and so there is one answer
pub says_once : {Holds : Fault → Type 0} {A : Type 0} {good : A} {not : Fault → A} {r s : A}
    → Says Holds good not r → Says Holds good not s → r ≡ s
says_once (stands f) (stands g) = refl
says_once (stands f) (refused {f = k} l) = absurd (f k l.holds)
says_once (refused {f = k} l) (stands f) = absurd (f k l.holds)
says_once {not = not} (refused {f = f} l) (refused {f = g} m) = let e = least_once l m in ap not (same f g e.0 e.1) where
  same : (f g : Fault) → f.number ≡ g.number → f.place ≡ g.place → f ≡ g
  same f g e h = λ i. record { number = e i; place = h i }

-- ---- POSITION a TO b, or a alone, which is then b too
pub data PositionFault (d : List ℕ) (a b : Figures) : Fault → Type 0 where
  start_0 : a.size ≡ 0 → PositionFault d a b (fault 7 a.place)
  reversed : true_of d b < true_of d a → PositionFault d a b (fault 7 b.place)
  start_far : 16384 < a.size → PositionFault d a b (fault 8 a.place)
  finish_far : 16384 < b.size → PositionFault d a b (fault 8 b.place)

-- SPREAD n OF w; SPREAD n alone, in a position of so many bytes; SIZE n
pub data SpreadFault (n w : Figures) : Fault → Type 0 where
  count_0 : n.size ≡ 0 → SpreadFault n w (fault 7 n.place)
  width_0 : w.size ≡ 0 → SpreadFault n w (fault 7 w.place)

pub data EvenFault (n : Figures) (width : ℕ) : Fault → Type 0 where
  count_0 : n.size ≡ 0 → EvenFault n width (fault 7 n.place)
  inexact : (width % n.size ≡ 0 → ⊥) → EvenFault n width (fault 7 n.place)

pub data SizeFault (n : Figures) : Fault → Type 0 where
  size_0 : n.size ≡ 0 → SizeFault n (fault 7 n.place)
  too_large : 4096 < n.size → SizeFault n (fault 8 n.place)

-- ---- the answers
module _ (d : List ℕ) (a b : Figures) (n : ℕ) (order : a.place ≤ b.place) where
  abbrev PositionSays : OrFault Position → Type 0
  PositionSays =
      Says (PositionFault d a b) (Ok (record { start = a.size; finish = b.size; place = a.place; next = n })) Err

  position_says : PositionSays (judge_position (below_of d b a) a b n)
  unfolding judge_position
  position_says = by (eqb a.size 0) (ltb (true_of d b) (true_of d a)) (ltb 16384 a.size) (ltb 16384 b.size) refl refl refl refl where
    by : (p q r s : Bool) → eqb a.size 0 ≡ p → ltb (true_of d b) (true_of d a) ≡ q → ltb 16384 a.size ≡ r → ltb 16384 b.size ≡ s
        → PositionSays (cond p (Err (fault 7 a.place)) (cond q (Err (fault 7 b.place))
        (cond r (Err (fault 8 a.place)) (cond s (Err (fault 8 b.place))
        (Ok (record { start = a.size; finish = b.size; place = a.place; next = n }))))))
    by true q r s e f g h = refused (record { holds = start_0 (eqb-true a.size 0 e); first = on }) where
      on : (g : Fault) → PositionFault d a b g → Before (fault 7 a.place) g
      on g (start_0 x) = earlier refl (omega arith)
      on g (reversed x) = earlier refl order
      on g (start_far x) = lower (omega arith)
      on g (finish_far x) = lower (omega arith)
    by false true r s e f g h = refused (record { holds = reversed (ltb-true (true_of d b) (true_of d a) f); first = on }) where
      on : (g : Fault) → PositionFault d a b g → Before (fault 7 b.place) g
      on g (start_0 x) = absurd (eqb-false a.size 0 e x)
      on g (reversed x) = earlier refl (omega arith)
      on g (start_far x) = lower (omega arith)
      on g (finish_far x) = lower (omega arith)
    by false false true s e f g h = refused (record { holds = start_far (ltb-true 16384 a.size g); first = on }) where
      on : (i : Fault) → PositionFault d a b i → Before (fault 8 a.place) i
      on i (start_0 x) = absurd (eqb-false a.size 0 e x)
      on i (reversed x) = let y = ltb-false (true_of d b) (true_of d a) f in absurd (omega arith)
      on i (start_far x) = earlier refl (omega arith)
      on i (finish_far x) = earlier refl order
    by false false false true e f g h = refused (record { holds = finish_far (ltb-true 16384 b.size h); first = on }) where
      on : (i : Fault) → PositionFault d a b i → Before (fault 8 b.place) i
      on i (start_0 x) = absurd (eqb-false a.size 0 e x)
      on i (reversed x) = let y = ltb-false (true_of d b) (true_of d a) f in absurd (omega arith)
      on i (start_far x) = let y = ltb-false 16384 a.size g in absurd (omega arith)
      on i (finish_far x) = earlier refl (omega arith)
    by false false false false e f g h = stands on where
      on : (i : Fault) → PositionFault d a b i → ⊥
      on i (start_0 x) = eqb-false a.size 0 e x
      on i (reversed x) = let y = ltb-false (true_of d b) (true_of d a) f in omega arith
      on i (start_far x) = let y = ltb-false 16384 a.size g in omega arith
      on i (finish_far x) = let y = ltb-false 16384 b.size h in omega arith

  pub position_exactly : (r : OrFault Position) → (judge_position (below_of d b a) a b n ≡ r) ↔ PositionSays r
  position_exactly r = (λ e. rw e at position_says, says_once position_says)

module _ (n w : Figures) (next : ℕ) (order : n.place ≤ w.place) where
  abbrev SpreadSays : OrFault Subfields → Type 0
  SpreadSays = Says (SpreadFault n w) (Ok (record { count = n.size; width = w.size; next = next })) Err

  spread_says : SpreadSays (judge_of n w next)
  unfolding judge_of
  spread_says = by (eqb n.size 0) (eqb w.size 0) refl refl where
    by : (p q : Bool) → eqb n.size 0 ≡ p → eqb w.size 0 ≡ q
        → SpreadSays (cond p (Err (fault 7 n.place)) (cond q (Err (fault 7 w.place))
        (Ok (record { count = n.size; width = w.size; next = next }))))
    by true q e f = refused (record { holds = SpreadFault.count_0 (eqb-true n.size 0 e); first = on }) where
      on : (i : Fault) → SpreadFault n w i → Before (fault 7 n.place) i
      on i (SpreadFault.count_0 x) = earlier refl (omega arith)
      on i (width_0 x) = earlier refl order
    by false true e f = refused (record { holds = width_0 (eqb-true w.size 0 f); first = on }) where
      on : (i : Fault) → SpreadFault n w i → Before (fault 7 w.place) i
      on i (SpreadFault.count_0 x) = absurd (eqb-false n.size 0 e x)
      on i (width_0 x) = earlier refl (omega arith)
    by false false e f = stands on where
      on : (i : Fault) → SpreadFault n w i → ⊥
      on i (SpreadFault.count_0 x) = eqb-false n.size 0 e x
      on i (width_0 x) = eqb-false w.size 0 f x

  pub spread_exactly : (r : OrFault Subfields) → (judge_of n w next ≡ r) ↔ SpreadSays r
  spread_exactly r = (λ e. rw e at spread_says, says_once spread_says)

module _ (n : Figures) where
  module _ (width next : ℕ) where
    abbrev EvenSays : OrFault Subfields → Type 0
    EvenSays = Says (EvenFault n width) (Ok (record { count = n.size; width = width / n.size; next = next })) Err

    even_says : EvenSays (judge_even n width next)
    unfolding judge_even
    even_says = by (eqb n.size 0) (eqb (width % n.size) 0) refl refl where
      -- both faults have one place
      on : (i : Fault) → EvenFault n width i → Before (fault 7 n.place) i
      on i (EvenFault.count_0 x) = earlier refl (omega arith)
      on i (inexact x) = earlier refl (omega arith)

      by : (p q : Bool) → eqb n.size 0 ≡ p → eqb (width % n.size) 0 ≡ q
          → EvenSays (cond p (Err (fault 7 n.place))
          (cond q (Ok (record { count = n.size; width = width / n.size; next = next })) (Err (fault 7 n.place))))
      by true q e f = refused (record { holds = EvenFault.count_0 (eqb-true n.size 0 e); first = on })
      by false false e f = refused (record { holds = inexact (eqb-false (width % n.size) 0 f); first = on })
      by false true e f = stands none where
        none : (i : Fault) → EvenFault n width i → ⊥
        none i (EvenFault.count_0 x) = eqb-false n.size 0 e x
        none i (inexact x) = x (eqb-true (width % n.size) 0 f)

    pub even_exactly : (r : OrFault Subfields) → (judge_even n width next ≡ r) ↔ EvenSays r
    even_exactly r = (λ e. rw e at even_says, says_once even_says)

  abbrev SizeSays : OrFault Figures → Type 0
  SizeSays = Says (SizeFault n) (Ok n) Err

  size_says : SizeSays (judge_size (Ok n))
  unfolding judge_size
  size_says = by (eqb n.size 0) (ltb 4096 n.size) refl refl where
    by : (p q : Bool) → eqb n.size 0 ≡ p → ltb 4096 n.size ≡ q
        → SizeSays (cond p (Err (fault 7 n.place)) (cond q (Err (fault 8 n.place)) (Ok n)))
    by true q e f = refused (record { holds = size_0 (eqb-true n.size 0 e); first = on }) where
      on : (i : Fault) → SizeFault n i → Before (fault 7 n.place) i
      on i (size_0 x) = earlier refl (omega arith)
      on i (too_large x) = lower (omega arith)
    by false true e f = refused (record { holds = too_large (ltb-true 4096 n.size f); first = on }) where
      on : (i : Fault) → SizeFault n i → Before (fault 8 n.place) i
      on i (size_0 x) = absurd (eqb-false n.size 0 e x)
      on i (too_large x) = earlier refl (omega arith)
    by false false e f = stands on where
      on : (i : Fault) → SizeFault n i → ⊥
      on i (size_0 x) = eqb-false n.size 0 e x
      on i (too_large x) = let y = ltb-false 4096 n.size f in omega arith

  pub size_exactly : (r : OrFault Figures) → (judge_size (Ok n) ≡ r) ↔ SizeSays r
  size_exactly r = (λ e. rw e at size_says, says_once size_says)
