-- Positions, spreads and sizes: what is found by folding over their charges is what the rule names, in whatever order the numbers stand.
use mathlib.Core.Path.{◌≡◌, refl, sym, ap, ◌∙◌}
use mathlib.Core.Bool.{Bool, true, false, cond, not}
use mathlib.Core.List.{List, ◌∷◌, ◌++◌}
use mathlib.Core.Option.{Option, none, some, get_or}
use Prim.Native.Nat.{ℕ, ◌<◌, ◌%◌, ◌/◌}
use native.Mathlib.Omega.{arith}
use lib.Dec.{eqb, ltb}
use borrow.Author.Tests.{eq-eqb, ne_eqb}
use Rattle.scan.specs.Number.{capped}
use Rattle.tokens.specs.declared.Figures.{Figures}
use Rattle.tokens.specs.rule.Gap.{fault}
use Rattle.survey.specs.rule.Survey.{Figure}
use Rattle.ranks.specs.declared.Found.{Found}
use Rattle.ranks.specs.rule.Rank.{lower_found}
use Rattle.reading.specs.rule.Result.{Result, Is, Not}
use Rattle.reading.specs.rule.Least.{Charge, ◌when◌, judged}
use Rattle.reading.specs.rule.Statement.{position_charges, spread_charges, size_charges}
use Rattle.bridge.specs.Facts.{capped_limit, capped_zero, capped_mod}
use Rattle.bridge.specs.Tokens.{to_number}
use Rattle.bridge.specs.Statements.{figures, even_or, to_stated, to_spreading}
use Rattle.elements.specs.Code.{found_of, Numbered, alone, ruled, position_found, located_of, shared_of, sized_of, spread_judged}
use Rattle.elements.proofs.Ranking.{found_cons, judged_ruled, lower_left, lower_join, lower_some, lower_same}

-- what is answered from what was found
ruled_to : {A R : Type 0} (to : Result A → R) (x : Found) (a : A) (n : ℕ)
    → cond (eqb x.number 0) (to (Is a n)) (to (Not (fault x.number x.place))) ≡ to (ruled x a n)
ruled_to to x a n = by (eqb x.number 0) where
  by : (q : Bool) → cond q (to (Is a n)) (to (Not (fault x.number x.place)))
      ≡ to (cond q (Is a n) (Not (fault x.number x.place)))
  by true = refl
  by false = refl

-- a list of charges that is judged, once its least is known
judged_to : {A R : Type 0} (to : Result A → R) (l : List Charge) (a : A) (n : ℕ) (x : Found) → Numbered l → found_of l ≡ x
    → cond (eqb x.number 0) (to (Is a n)) (to (Not (fault x.number x.place))) ≡ to (judged l a n)
judged_to to l a n x h e = ruled_to to x a n ∙ ap to (sym (judged_ruled l a n h ∙ ap (λ (y : Found). ruled y a n) e))

-- ---- positions
module _ (a y : Figure) (l : List Charge) (h : Numbered l) where
  position_found_lem : (e k : ℕ) → found_of (position_charges a y ++ l)
      ≡ position_found (ltb y.value a.value) (figures a e) (figures y k) (found_of l)
  unfolding position_charges
  position_found_lem e k =
      rw (capped_zero a.value, capped_limit 16384 a.value (omega arith), capped_limit 16384 y.value (omega arith))
      (found_cons (fault 7 a.place) (eqb a.value 0)
      (fault 7 y.place when ltb y.value a.value ∷ fault 8 a.place when ltb 16384 a.value
      ∷ fault 8 y.place when ltb 16384 y.value ∷ l) (omega arith) (omega arith, (omega arith, (omega arith, h)))
      ∙ ap (lower_found (alone (fault 7 a.place) (eqb a.value 0)))
      (found_cons (fault 7 y.place) (ltb y.value a.value)
      (fault 8 a.place when ltb 16384 a.value ∷ fault 8 y.place when ltb 16384 y.value ∷ l) (omega arith)
      (omega arith, (omega arith, h))
      ∙ ap (lower_found (alone (fault 7 y.place) (ltb y.value a.value)))
      (found_cons (fault 8 a.place) (ltb 16384 a.value) (fault 8 y.place when ltb 16384 y.value ∷ l) (omega arith)
      (omega arith, h)
      ∙ ap (lower_found (alone (fault 8 a.place) (ltb 16384 a.value)))
      (found_cons (fault 8 y.place) (ltb 16384 y.value) l (omega arith) h))))

  position_numbered : Numbered (position_charges a y ++ l)
  unfolding position_charges
  position_numbered = (omega arith, (omega arith, (omega arith, (omega arith, h))))

-- POSITION, with its second location or without
pub position_ruled : (a : Figure) (b : Option Figure) (n : ℕ) {x y : Figures} (e k : ℕ) → x ≡ figures a e → y ≡ figures (get_or b a) k
    → {below : Bool} → below ≡ ltb (get_or b a).value a.value → (l : List Charge) → Numbered l → {f g : Found} → g ≡ found_of l
    → f ≡ position_found below x y g → located_of x y n f
    ≡ to_stated (judged (position_charges a (get_or b a) ++ l) (record { start = a; finish = b }) n)
position_ruled a b n {x} {y} e k p q {below} o l h {f} {g} i j =
    rw (p, q) (judged_to to_stated (position_charges a (get_or b a) ++ l) (record { start = a; finish = b }) n f
    (position_numbered a (get_or b a) l h)
    (position_found_lem a (get_or b a) l h e k ∙ sym (rw (p, q, o, i) at j)))

-- ---- spreads
spread_numbered : (room : ℕ) (x : Figure) (w : Option Figure) (l : List Charge) → Numbered l → Numbered (spread_charges room x w ++ l)
unfolding spread_charges
spread_numbered room x none l h = (omega arith, (omega arith, h))
spread_numbered room x (some w) l h = (omega arith, (omega arith, h))

spread_ruled : (room : ℕ) (x : Figure) (w : Option Figure) (n : ℕ) (l : List Charge) → Numbered l → (f : Found)
    → found_of (spread_charges room x w ++ l) ≡ f
    → shared_of (capped x.value) (even_or room (capped x.value) w) n f ≡ to_spreading room (spread_judged room x w l n)
spread_ruled room x w n l h f e = judged_to (to_spreading room) (spread_charges room x w ++ l) (record { count = x; width = w }) n f
    (spread_numbered room x w l h) e

-- of a width of their own
module _ (room : ℕ) (x w : Figure) (l : List Charge) (h : Numbered l) where
  fields_found : found_of (spread_charges room x (some w) ++ l)
      ≡ lower_found (alone (fault 7 x.place) (eqb (capped x.value) 0))
      (lower_found (alone (fault 7 w.place) (eqb (capped w.value) 0)) (found_of l))
  unfolding spread_charges
  fields_found =
      rw (capped_zero x.value, capped_zero w.value)
      (found_cons (fault 7 x.place) (eqb x.value 0) (fault 7 w.place when eqb w.value 0 ∷ l) (omega arith) (omega arith, h)
      ∙ ap (lower_found (alone (fault 7 x.place) (eqb x.value 0)))
      (found_cons (fault 7 w.place) (eqb w.value 0) l (omega arith) h))

pub fields_ruled : (room : ℕ) (x w : Figure) (n : ℕ) {a b : Figures} (e k : ℕ) → a ≡ figures x e → b ≡ figures w k → (l : List Charge)
    → Numbered l
    → {f g : Found} → g ≡ found_of l → f ≡ lower_found (alone (fault 7 a.place) (eqb a.size 0))
    (lower_found (alone (fault 7 b.place) (eqb b.size 0)) g)
    → shared_of a.size b.size n f ≡ to_spreading room (spread_judged room x (some w) l n)
fields_ruled room x w n {a} {b} e k p q l h {f} {g} i j =
    rw (p, q) (spread_ruled room x (some w) n l h f (fields_found room x w l h ∙ sym (rw (p, q, i) at j)))

-- sharing the position's
even_found : (room : ℕ) (x : Figure) (l : List Charge) → Numbered l → found_of (spread_charges room x none ++ l)
    ≡ lower_found (alone (fault 7 x.place) (eqb x.value 0))
    (lower_found (alone (fault 7 x.place) (not (eqb (room % x.value) 0))) (found_of l))
unfolding spread_charges
even_found room x l h =
    found_cons (fault 7 x.place) (eqb x.value 0) (fault 7 x.place when not (eqb (room % x.value) 0) ∷ l) (omega arith)
    (omega arith, h)
    ∙ ap (lower_found (alone (fault 7 x.place) (eqb x.value 0)))
    (found_cons (fault 7 x.place) (not (eqb (room % x.value) 0)) l (omega arith) h)

module _ (room : ℕ) (small : room < 1000000000000000) (x : Figure) (n : ℕ) (l : List Charge) (h : Numbered l) where
  abbrev seven : Bool → Found
  seven q = alone (fault 7 x.place) q

  none_ruled : {f : Found} → capped x.value ≡ 0 → f ≡ lower_found (seven true) (found_of l) → shared_of 0 0 n f
      ≡ to_spreading room (spread_judged room x none l n)
  none_ruled {f} z j =
      let v : eqb x.value 0 ≡ true = sym (capped_zero x.value) ∙ eq-eqb (capped x.value) 0 z in
      let o = not (eqb (room % x.value) 0) in
      let q : lower_found (seven true) (lower_found (seven o) (found_of l)) ≡ f =
      lower_join (seven true) (seven o) (found_of l)
      ∙ ap (λ (y : Found). lower_found y (found_of l)) (lower_same (fault 7 x.place) o (omega arith)) ∙ sym j in
      let s = spread_ruled room x none n l h f (even_found room x l h ∙ (rw v q)) in
      let y : eqb f.number 0 ≡ false = rw j (lower_some (seven true) (found_of l) (omega arith)) in
      rw y (rw y at s)

  some_ruled : {f : Found} → (capped x.value ≡ 0 → ⊥) → f ≡ lower_found (seven (not (eqb (room % capped x.value) 0))) (found_of l)
      → shared_of (capped x.value) (room / capped x.value) n f ≡ to_spreading room (spread_judged room x none l n)
  some_ruled {f} z j =
      let v : eqb x.value 0 ≡ false = sym (capped_zero x.value) ∙ ne_eqb (capped x.value) 0 z in
      let i = rw (capped_mod room x.value small) at j in
      let q : lower_found (seven false) (lower_found (seven (not (eqb (room % x.value) 0))) (found_of l)) ≡ f =
      lower_left (seven false) (lower_found (seven (not (eqb (room % x.value) 0))) (found_of l)) refl ∙ sym i in
      spread_ruled room x none n l h f (even_found room x l h ∙ (rw v q))

  module _ {a : Figures} (e : ℕ) (p : a ≡ figures x e) {f g : Found} (i : g ≡ found_of l) where
    pub even_none : a.size ≡ 0 → f ≡ lower_found (alone (fault 7 a.place) true) g → shared_of 0 0 n f
        ≡ to_spreading room (spread_judged room x none l n)
    even_none z j = none_ruled (rw p at z) (rw (p, i) at j)

    pub even_ruled : (a.size ≡ 0 → ⊥) → f ≡ lower_found (alone (fault 7 a.place) (not (eqb (room % a.size) 0))) g
        → shared_of a.size (room / a.size) n f ≡ to_spreading room (spread_judged room x none l n)
    even_ruled z j = rw p (some_ruled (rw p at z) (rw (p, i) at j))

-- ---- sizes
pub size_ruled : (y : Figure) (n : ℕ) {x : Figures} (e : ℕ) → x ≡ figures y e → (l : List Charge) → Numbered l → {f : Found} → f
    ≡ found_of l
    → sized_of x n f ≡ to_number (judged l y n)
size_ruled y n {x} e p l h {f} i = rw p (judged_to to_number l y n f h (sym i))

module _ (y : Figure) (l : List Charge) (h : Numbered l) where
  size_found : found_of (size_charges y ++ l)
      ≡ lower_found (alone (fault 7 y.place) (eqb (capped y.value) 0))
      (lower_found (alone (fault 8 y.place) (ltb 4096 (capped y.value))) (found_of l))
  unfolding size_charges
  size_found =
      rw (capped_zero y.value, capped_limit 4096 y.value (omega arith))
      (found_cons (fault 7 y.place) (eqb y.value 0) (fault 8 y.place when ltb 4096 y.value ∷ l) (omega arith) (omega arith, h)
      ∙ ap (lower_found (alone (fault 7 y.place) (eqb y.value 0)))
      (found_cons (fault 8 y.place) (ltb 4096 y.value) l (omega arith) h))

  size_numbered : Numbered (size_charges y ++ l)
  unfolding size_charges
  size_numbered = (omega arith, (omega arith, h))

pub size_ranked : (y : Figure) (n : ℕ) {x : Figures} (e : ℕ) → x ≡ figures y e → (l : List Charge) → Numbered l → {f g : Found} → g
    ≡ found_of l
    → f ≡ lower_found (alone (fault 7 x.place) (eqb x.size 0)) (lower_found (alone (fault 8 x.place) (ltb 4096 x.size)) g)
    → sized_of x n f ≡ to_number (judged (size_charges y ++ l) y n)
size_ranked y n {x} e p l h {f} {g} i j =
    size_ruled y n e p (size_charges y ++ l) (size_numbered y l h) (rw (p, i) at j ∙ sym (size_found y l h))
