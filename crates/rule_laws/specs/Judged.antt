-- "A statement is judged once read ..: 4 to 8 by lowest number, equal numbers by earlier place": what `judged` answers of any list of
-- charges, both ways. A statement is read exactly when no charge's test holds; else the fault is named that is one of those that hold and
-- goes before all of them, and no other.
use Rattle.std.specs.Prelude.{◌↔◌, ◌≡◌, refl, List, [], ℕ}
use Rattle.std.proofs.Common.{ap, arith}
use Rattle.tokens.specs.declared.Fault.{Fault}
use Rattle.reading.specs.rule.Result.{Result, Is, Not}
use Rattle.reading.specs.rule.Least.{Charge, named, Finding, found, judged}
use Rattle.bridge.specs.Lowest.{never, Sooner, In, here, there, Lowest, nothing, lowest, least_lowest}

-- ---- the words: `named l` are the faults of l whose test holds
pub data Verdict {A : Type 0} (l : List Charge) (a : A) (n : ℕ) : Result A → Type 0 where
  read : named l ≡ [] → Verdict l a n (Is a n)
  refused : {f : Fault} → In f (named l) → ((g : Fault) → In g (named l) → Sooner f g) → Verdict l a n (Not f)

module _ {A : Type 0} (l : List Charge) (a : A) (n : ℕ) where
  pub judged_named : Verdict l a n (judged l a n)
  unfolding judged
  judged_named = by (least_lowest (named l)) where
    by : {x : Finding} → Lowest (named l) x → Verdict l a n (found a n x)
    by (nothing e) = read e
    by (lowest i s) = refused i s

  none_in : {f : Fault} {m : List Fault} → m ≡ [] → In f m → ⊥
  none_in e here = never cc
  none_in e (there i) = never cc

  same : (f g : Fault) → f.number ≡ g.number → f.place ≡ g.place → f ≡ g
  same f g e h = λ i. record { number = e i; place = h i }

  one_fault : {f g : Fault} → Sooner f g → Sooner g f → f ≡ g
  one_fault {f} {g} s t =
      let e : f.number ≡ g.number = omega (arith, s.number, t.number) in
      let e' : g.number ≡ f.number = omega arith in
      same f g e (omega (arith, s.place e, t.place e'))

  -- two answers are one
  pub verdict_once : {r s : Result A} → Verdict l a n r → Verdict l a n s → r ≡ s
  verdict_once (read e) (read e') = refl
  verdict_once (read e) (refused i s) = absurd (none_in e i)
  verdict_once (refused i s) (read e) = absurd (none_in e i)
  verdict_once (refused {f = f} i s) (refused {f = g} j t) = ap Not (one_fault (s g j) (t f i))

  -- EXACTLY WHEN
  pub judged_exactly : (r : Result A) → (judged l a n ≡ r) ↔ Verdict l a n r
  judged_exactly r = (λ e. rw e at judged_named, verdict_once judged_named)
