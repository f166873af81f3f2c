-- "4 to 8 by lowest number, equal numbers by earlier place", in words: of a list of charges, one line a fault, the fault is named whose
-- test
-- holds and that goes before every other whose test holds.
use Rattle.std.specs.Prelude.{◌↔◌, ◌≡◌, refl, Bool, true, false, cond, List, [], ◌∷◌}
use Rattle.std.proofs.Common.{arith}
use Rattle.tokens.specs.declared.Fault.{Fault}
use Rattle.reading.specs.rule.Least.{Charge, ◌when◌, named, Finding, first}
use Rattle.bridge.specs.Lowest.{never, Sooner, In, least_lowest}
use Rattle.bridge.specs.Lowest as lowest
use Rattle.grammar.specs.Faults.{Clean}
use Rattle.grammar.specs.Refusal.{Lowest}

-- ---- the words: f is a fault of l whose test holds; it goes before all of these
pub data Charged (f : Fault) : List Charge → Type 0 where
  holds : {q : Bool} {l : List Charge} → q ≡ true → Charged f (f when q ∷ l)
  later : {c : Charge} {l : List Charge} → Charged f l → Charged f (c ∷ l)

pub record LeastOf (l : List Charge) (f : Fault) : Type 0 where
  pub charged : Charged f l
  pub before_all : (g : Fault) → Charged g l → Sooner f g

-- ---- the faults that are named are those whose test holds
in_charged : {f : Fault} (l : List Charge) → In f (named l) → Charged f l
unfolding named
in_charged [] i = none i where
  none : {f : Fault} {m : List Charge} → In f [] → Charged f m
  none i = absurd (empty i refl) where
    empty : {f : Fault} {m : List Fault} → In f m → m ≡ [] → ⊥
    empty lowest.here e = never cc
    empty (lowest.there j) e = never cc
in_charged {f} (g when q ∷ l) i = by q refl i (in_charged l) where
  head : {g : Fault} {m : List Fault} → In f (g ∷ m) → (q ≡ true → f ≡ g → Charged f (g when q ∷ l)) → (In f m → Charged f l) → q ≡ true
      → Charged f (g when q ∷ l)
  head lowest.here y n e = y e refl
  head (lowest.there j) y n e = later (n j)

  by : (x : Bool) → q ≡ x → In f (cond x (g ∷ named l) (named l)) → (In f (named l) → Charged f l) → Charged f (g when q ∷ l)
  by true e i ih = head i (λ e h. rw h (holds e)) ih e
  by false e i ih = later (ih i)

charged_in : {f : Fault} {l : List Charge} → Charged f l → In f (named l)
unfolding named
charged_in (holds e) = rw e lowest.here
charged_in {f} {l} (later {c = g when q} {l = k} x) = by q (charged_in x) where
  by : (q : Bool) → In f (named k) → In f (cond q (g ∷ named k) (named k))
  by true i = lowest.there i
  by false i = i

same : (f g : Fault) → f.number ≡ g.number → f.place ≡ g.place → f ≡ g
same f g e h = λ i. record { number = e i; place = h i }

one_fault : {f g : Fault} → Sooner f g → Sooner g f → f ≡ g
one_fault {f} {g} s t =
    let e : f.number ≡ g.number = omega (arith, s.number, t.number) in
    let e' : g.number ≡ f.number = omega arith in
    same f g e (omega (arith, s.place e, t.place e'))

-- LOWEST FIRST: every statement that is judged names f exactly when f is the least of its faults that hold
pub lowest_first : (l : List Charge) (f : Fault) → Lowest l f ↔ LeastOf l f
lowest_first l f = (to (least_lowest (named l)), λ r. from (least_lowest (named l)) r) where
  to : {x : Finding} → lowest.Lowest (named l) x → x ≡ first f → LeastOf l f
  to (lowest.nothing e) q = never cc
  to (lowest.lowest {f = g} i s) q =
      let h : g ≡ f = cc in
      record { charged = rw h at (in_charged l i); before_all = λ k c. rw h at (s k (charged_in c)) }

  from : {x : Finding} → lowest.Lowest (named l) x → LeastOf l f → x ≡ first f
  from (lowest.nothing e) r = absurd (empty e (charged_in r.charged)) where
    empty : {f : Fault} {m : List Fault} → m ≡ [] → In f m → ⊥
    empty e lowest.here = never cc
    empty e (lowest.there j) = never cc
  from (lowest.lowest {f = g} i s) r = let h : g ≡ f = one_fault (s f (charged_in r.charged)) (r.before_all g (in_charged l i)) in rw h

-- CLEAN: nothing is named exactly when no test holds
pub clean_exactly : (l : List Charge) → Clean l ↔ ((f : Fault) → Charged f l → ⊥)
clean_exactly l = (λ e f c. empty e (charged_in c), λ n. none (named l) (λ f i. n f (in_charged l i))) where
  empty : {f : Fault} {m : List Fault} → m ≡ [] → In f m → ⊥
  empty e lowest.here = never cc
  empty e (lowest.there j) = never cc

  none : (m : List Fault) → ((f : Fault) → In f m → ⊥) → m ≡ []
  none [] n = refl
  none (f ∷ m) n = absurd (n f lowest.here)
