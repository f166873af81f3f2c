-- RANKING: the least of the charges that are named is what folding `ranks::lower` over the faults gives. No charge may have number 0, which
-- is none to `ranks`.
use mathlib.Core.Path.{◌≡◌, refl, sym, ap, ◌∙◌}
use mathlib.Core.Bool.{Bool, true, false, cond, not, ◌&&◌, ◌||◌}
use mathlib.Core.List.{List, [], ◌∷◌, ◌++◌}
use Prim.Native.Nat.{ℕ, ◌≤◌, ◌<◌}
use native.Mathlib.Omega.{arith}
use lib.Dec.{eqb, ltb, leb}
use borrow.Author.Tests.{eq-eqb, ne_eqb, eqb-true, eqb-false, ltb-true, ltb-false, le-ltb, le-leb, lt-leb}
use Rattle.tokens.specs.declared.Fault.{Fault}
use Rattle.tokens.specs.rule.Gap.{fault}
use Rattle.ranks.specs.declared.Found.{Found}
use Rattle.ranks.specs.rule.Rank.{none_found, found_at, precedes, lower_found}
use Rattle.ranks.proofs.Lowest.{below_of, below_join, turned, same}
use Rattle.reading.specs.rule.Least.{Charge, ◌when◌, named, goes_before, Finding, clean, first, lower, least, found, judged}
use Rattle.xml_reading.specs.rule.Open.{unknown_at}
use Rattle.elements.specs.Code.{found_in, found_of, alone, ruled, Numbered}

-- ---- of two the one that counts
module _ (a b : Found) where
  pub lower_left : eqb a.number 0 ≡ true → lower_found a b ≡ b
  unfolding lower_found
  lower_left e = rw e

  pub lower_right : eqb a.number 0 ≡ false → eqb b.number 0 ≡ true → lower_found a b ≡ a
  unfolding lower_found
  lower_right e f = rw (e, f)

  pub lower_take : eqb a.number 0 ≡ false → eqb b.number 0 ≡ false → precedes b a ≡ true → lower_found a b ≡ b
  unfolding lower_found
  lower_take e f g = rw (e, f, g)

  pub lower_keep : eqb a.number 0 ≡ false → eqb b.number 0 ≡ false → precedes b a ≡ false → lower_found a b ≡ a
  unfolding lower_found
  lower_keep e f g = rw (e, f, g)

pub lower_join : (a b c : Found) → lower_found a (lower_found b c) ≡ lower_found (lower_found a b) c
lower_join a b c = by (eqb a.number 0) (eqb b.number 0) (eqb c.number 0) (precedes b a) (precedes c b) (precedes c a) refl refl
    refl refl refl refl where
      by : (x y z p q r : Bool) → eqb a.number 0 ≡ x → eqb b.number 0 ≡ y → eqb c.number 0 ≡ z → precedes b a ≡ p → precedes c b
          ≡ q
          → precedes c a ≡ r
          → lower_found a (lower_found b c) ≡ lower_found (lower_found a b) c
      by true y z p q r e f g i j k = rw (lower_left a b e) (lower_left a (lower_found b c) e)
      by false true z p q r e f g i j k = rw (lower_left b c f, lower_right a b e f)
      by false false true p q r e f g i j k = rw (lower_right b c f g) (of p i) where
        of : (p : Bool) → precedes b a ≡ p → lower_found a b ≡ lower_found (lower_found a b) c
        of true i = rw (lower_take a b e f i) (sym (lower_right b c f g))
        of false i = rw (lower_keep a b e f i) (sym (lower_right a c e g))
      by false false false true true true e f g i j k = rw (lower_take b c f g j, lower_take a b e f i, lower_take b c f g j)
          (lower_take a c e g k)
      by false false false true true false e f g i j k =
          rw (lower_take b c f g j, lower_take a b e f i, lower_take b c f g j)
          (lower_keep a c e g k ∙ same a c (below_of a c k) (below_join c b a (turned b c j) (turned a b i)))
      by false false false true false r e f g i j k = rw (lower_keep b c f g j, lower_take a b e f i) (sym (lower_keep b c f g j))
      by false false false false true true e f g i j k = rw (lower_take b c f g j, lower_keep a b e f i)
      by false false false false true false e f g i j k = rw (lower_take b c f g j, lower_keep a b e f i)
      by false false false false false true e f g i j k =
          rw (lower_keep b c f g j, lower_keep a b e f i)
          (sym (lower_take a c e g k ∙ sym (same a c (below_join a b c (below_of a b i) (below_of b c j)) (turned a c k))))
      by false false false false false false e f g i j k = rw (lower_keep b c f g j, lower_keep a b e f i) (sym (lower_keep a c e g k))

pub lower_some : (a b : Found) → 0 < a.number → eqb (lower_found a b).number 0 ≡ false
lower_some a b h = by (eqb b.number 0) (precedes b a) refl refl where
  s : eqb a.number 0 ≡ false
  s = ne_eqb a.number 0 (λ e. omega arith)

  by : (x y : Bool) → eqb b.number 0 ≡ x → precedes b a ≡ y → eqb (lower_found a b).number 0 ≡ false
  by true y e f = rw (lower_right a b s e) s
  by false true e f = rw (lower_take a b s e f) e
  by false false e f = rw (lower_keep a b s e f) s

same_keeps : (a : Found) → precedes a a ≡ false
unfolding precedes
same_keeps a = rw (le-ltb a.number a.number (omega arith), le-ltb a.place a.place (omega arith))
    (by (eqb a.number a.number)) where
      by : (q : Bool) → (q && false) ≡ false
      by true = refl
      by false = refl

-- a fault that is named twice
pub lower_same : (f : Fault) (q : Bool) → 0 < f.number → lower_found (alone f true) (alone f q) ≡ alone f true
lower_same f q h = by q where
  s : eqb f.number 0 ≡ false
  s = ne_eqb f.number 0 (λ e. omega arith)

  by : (q : Bool) → lower_found (alone f true) (alone f q) ≡ alone f true
  by true = lower_keep (alone f true) (alone f true) s s (same_keeps (alone f true))
  by false = lower_right (alone f true) none_found s refl

-- ---- one fault more
abbrev as_found : Fault → Found
as_found f = record { number = f.number; place = f.place }

-- f goes first exactly when the other doesn't come before it
before_precedes : (f g : Fault) → goes_before f g ≡ not (precedes (as_found g) (as_found f))
unfolding goes_before precedes
before_precedes f g = by f.number g.number f.place g.place where
  places : (p q : ℕ) (z : Bool) → ltb q p ≡ z → leb p q ≡ not (ltb q p)
  places p q true k = let h = ltb-true q p k in rw (k, lt-leb p q h)
  places p q false k = let h = ltb-false q p k in rw (k, le-leb p q h)

  apart : (m n p q : ℕ) (w : Bool) → n ≤ m → (m ≡ n → ⊥) → ltb n m ≡ w → false ≡ not (ltb n m || (eqb n m && ltb q p))
  apart m n p q true h l i = rw i
  apart m n p q false h l i = let k = ltb-false n m i in absurd (l (omega arith))

  of : (m n p q : ℕ) (x y : Bool) → ltb m n ≡ x → eqb m n ≡ y
      → cond (ltb m n) true (cond (eqb m n) (leb p q) false) ≡ not (ltb n m || (eqb n m && ltb q p))
  of m n p q true y i j = let h = ltb-true m n i in rw (i, le-ltb n m (omega arith), ne_eqb n m (λ e. omega arith))
  of m n p q false true i j =
      let e = eqb-true m n j in
      rw (i, j, le-ltb n m (omega arith), eq-eqb n m (sym e)) (places p q (ltb q p) refl)
  of m n p q false false i j = rw (i, j) (apart m n p q (ltb n m) (ltb-false m n i) (eqb-false m n j) refl)

  by : (m n p q : ℕ) → cond (ltb m n) true (cond (eqb m n) (leb p q) false) ≡ not (ltb n m || (eqb n m && ltb q p))
  by m n p q = of m n p q (ltb m n) (eqb m n) refl refl

-- what is found has a number
abbrev Marked : Finding → Type 0
Marked clean = Unit
Marked (first f) = 0 < f.number

lower_marked : (f : Fault) (x : Finding) → 0 < f.number → Marked x → Marked (lower f x)
unfolding lower
lower_marked f clean h i = h
lower_marked f (first g) h i = by (goes_before f g) where
  by : (q : Bool) → Marked (cond q (first f) (first g))
  by true = h
  by false = i

least_marked : (l : List Charge) → Numbered l → Marked (least (named l))
unfolding named least
least_marked [] h = tt
least_marked (f when q ∷ l) h = by q (least_marked l h.1) where
  by : (q : Bool) → Marked (least (named l)) → Marked (least (cond q (f ∷ named l) (named l)))
  by true i = lower_marked f (least (named l)) h.0 i
  by false i = i

some : (n : ℕ) → 0 < n → eqb n 0 ≡ false
some n h = ne_eqb n 0 (λ e. omega arith)

lower_found_lem : (f : Fault) (x : Finding) → 0 < f.number → Marked x → found_in (lower f x) ≡ lower_found (as_found f) (found_in x)
unfolding lower
lower_found_lem f clean h i = sym (lower_right (as_found f) none_found (some f.number h) refl)
lower_found_lem f (first g) h i = by (goes_before f g) refl where
  back : (x y : Bool) → x ≡ not y → y ≡ not x
  back true true e = e
  back true false e = refl
  back false true e = refl
  back false false e = e

  by : (q : Bool) → goes_before f g ≡ q → found_in (cond q (first f) (first g)) ≡ lower_found (as_found f) (as_found g)
  by true e = sym (lower_keep (as_found f) (as_found g) (some f.number h) (some g.number i)
      (back (goes_before f g) (precedes (as_found g) (as_found f)) (before_precedes f g) ∙ ap not e))
  by false e = sym (lower_take (as_found f) (as_found g) (some f.number h) (some g.number i)
      (back (goes_before f g) (precedes (as_found g) (as_found f)) (before_precedes f g) ∙ ap not e))

pub found_cons : (f : Fault) (q : Bool) (l : List Charge) → 0 < f.number → Numbered l → found_of (f when q ∷ l)
    ≡ lower_found (alone f q) (found_of l)
unfolding found_of named least
found_cons f q l h i = by q where
  by : (q : Bool) → found_in (least (cond q (f ∷ named l) (named l)))
      ≡ lower_found (cond q (as_found f) none_found) (found_in (least (named l)))
  by true = lower_found_lem f (least (named l)) h (least_marked l i)
  by false = sym (lower_left none_found (found_in (least (named l))) refl)

pub numbered_join : (l m : List Charge) → Numbered l → Numbered m → Numbered (l ++ m)
numbered_join [] m h i = i
numbered_join (f when q ∷ l) m h i = (h.0, numbered_join l m h.1 i)

found_none : eqb (found_of []).number 0 ≡ true
unfolding found_of named least
found_none = refl

-- RANKED: the least of two lists of charges is the lower of the least of each
pub found_join : (l m : List Charge) → Numbered l → Numbered m → found_of (l ++ m) ≡ lower_found (found_of l) (found_of m)
found_join [] m h i = sym (lower_left (found_of []) (found_of m) found_none)
found_join (f when q ∷ l) m h i =
    found_cons f q (l ++ m) h.0 (numbered_join l m h.1 i)
    ∙ ap (λ (x : Found). lower_found (alone f q) x) (found_join l m h.1 i)
    ∙ lower_join (alone f q) (found_of l) (found_of m)
    ∙ sym (ap (λ (x : Found). lower_found x (found_of m)) (found_cons f q l h.0 h.1))

-- 51 where it stands
pub found_unknown : (p : ℕ) → found_of (unknown_at p ∷ []) ≡ found_at 51 p
unfolding found_of named least lower
found_unknown p = by (eqb p 0) where
  by : (q : Bool) → found_in (least (cond (not q) (fault 51 p ∷ []) [])) ≡ cond q none_found (record { number = 51; place = p })
  by true = refl
  by false = refl

-- and before other charges
pub found_behind : (p : ℕ) (l : List Charge) → Numbered l → found_of (unknown_at p ∷ l) ≡ lower_found (found_at 51 p) (found_of l)
found_behind p l h = found_join (unknown_at p ∷ []) l (omega arith, tt) h ∙ ap (λ (x : Found). lower_found x (found_of l)) (found_unknown p)

-- JUDGED: what is answered follows from the least alone
pub judged_ruled : {A : Type 0} (l : List Charge) (a : A) (n : ℕ) → Numbered l → judged l a n ≡ ruled (found_of l) a n
unfolding judged found_of
judged_ruled {A} l a n h = by (least (named l)) (least_marked l h) where
  by : (x : Finding) → Marked x → found a n x ≡ ruled (found_in x) a n
  by clean i = refl
  by (first f) i = rw (some f.number i)
