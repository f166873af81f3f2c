-- "4 to 8 by lowest number, equal numbers by earlier place": a chain of tests whose charges rise answers the least of those that are named.
use Rattle.std.specs.Prelude.{◌≡◌, refl, Bool, true, false, cond, List, [], ◌∷◌, ℕ, ◌≤◌, eqb, ltb, leb}
use Rattle.std.proofs.Common.{sym, arith, eq-eqb, eqb-true, ltb-true, ltb-false, le-leb, leb-true, leb-false}
use Rattle.std.proofs.lemmas.Bool.{eqb-false}
use Rattle.tokens.specs.declared.Fault.{Fault}
use Rattle.reading.specs.rule.Result.{Result, Is, Not}
use Rattle.reading.specs.rule.Least.{Charge, ◌when◌, named, goes_before, Finding, clean, first, lower, least, found, judged}

-- two numbers that are never equal prove anything: `never cc` ends a case whose answers differ
pub never : {A : Type 0} → ◌≡◌ {A = ℕ} 0 1 → A
never z = absurd (omega arith)

-- ---- a chain of tests answers the least, if its faults stand in their order
unfoldable pub chain : {R : Type 0} → (Fault → R) → R → List Charge → R
chain bad good [] = good
chain bad good (f when q ∷ l) = cond q (bad f) (chain bad good l)

unfoldable pub rising : List Charge → Bool
rising [] = true
rising (f when q ∷ []) = true
rising (f when q ∷ g when r ∷ l) = cond (goes_before f g) (rising (g when r ∷ l)) false

pub record Sooner (f g : Fault) : Type 0 where
  pub number : f.number ≤ g.number
  pub place : f.number ≡ g.number → f.place ≤ g.place

sooner : (f g : Fault) → goes_before f g ≡ true → Sooner f g
unfolding goes_before
sooner f g = by (ltb f.number g.number) (eqb f.number g.number) (leb f.place g.place) refl refl refl where
  by : (x y z : Bool) → ltb f.number g.number ≡ x → eqb f.number g.number ≡ y → leb f.place g.place ≡ z
      → cond x true (cond y z false) ≡ true → Sooner f g
  by true y z i j k e = let h = ltb-true f.number g.number i in record { number = omega arith; place = λ e. absurd (omega arith) }
  by false true true i j k e =
      let h = eqb-true f.number g.number j in
      let l = leb-true f.place g.place k in
      record { number = omega arith; place = λ e. l }
  by false true false i j k e = never cc
  by false false z i j k e = never cc

sooner_before : {f g : Fault} → Sooner f g → goes_before f g ≡ true
unfolding goes_before
sooner_before {f} {g} s = by (ltb f.number g.number) refl where
  by : (x : Bool) → ltb f.number g.number ≡ x
      → cond x true (cond (eqb f.number g.number) (leb f.place g.place) false) ≡ true
  by true i = refl
  by false i =
      let h = ltb-false f.number g.number i in
      let n = s.number in
      let e : f.number ≡ g.number = omega arith in
      rw (eq-eqb f.number g.number e, le-leb f.place g.place (s.place e))

sooner_trans : {f g h : Fault} → Sooner f g → Sooner g h → Sooner f h
sooner_trans {f} {g} {h} a b =
    let m = a.number in
    let n = b.number in
    record {
      number = omega arith;
      place = λ e. let i : f.number ≡ g.number = omega arith in let j : g.number ≡ h.number =
          omega arith in omega (arith, a.place i, b.place j);
    }

-- f stands before what was found
pub data Leads (f : Fault) : Finding → Type 0 where
  alone : Leads f clean
  leads : {g : Fault} → Sooner f g → Leads f (first g)

lower_first : {f : Fault} {x : Finding} → Leads f x → lower f x ≡ first f
unfolding lower
lower_first alone = refl
lower_first (leads s) = rw (sooner_before s)

leads_on : {f g : Fault} {x : Finding} → Sooner f g → Leads g x → Leads f x
leads_on s alone = alone
leads_on s (leads t) = leads (sooner_trans s t)

rising_tail : (f : Fault) (q : Bool) (l : List Charge) → rising (f when q ∷ l) ≡ true → rising l ≡ true
unfolding rising
rising_tail f q [] e = refl
rising_tail f q (g when r ∷ l) e = by (goes_before f g) e where
  by : (x : Bool) → cond x (rising (g when r ∷ l)) false ≡ true → rising (g when r ∷ l) ≡ true
  by true e = e
  by false e = never cc

rising_leads : (f : Fault) (q : Bool) (l : List Charge) → rising (f when q ∷ l) ≡ true → Leads f (least (named l))
unfolding rising named least
rising_leads f q [] e = alone
rising_leads f q (g when r ∷ l) e = by (goes_before f g) refl e (λ k. rising_leads g r l k) where
  on : (r : Bool) → Sooner f g → Leads g (least (named l)) → Leads f (least (cond r (g ∷ named l) (named l)))
  on true s i = rw (lower_first i) (leads s)
  on false s i = leads_on s i

  by : (x : Bool) → goes_before f g ≡ x → cond x (rising (g when r ∷ l)) false ≡ true
      → (rising (g when r ∷ l) ≡ true → Leads g (least (named l))) → Leads f (least (cond r (g ∷ named l) (named l)))
  by true b e ih = on r (sooner f g b) (ih e)
  by false b e ih = never cc

-- what was found, told by the answer
pub chain_least : {A R : Type 0} (to : Result A → R) (a : A) (n : ℕ) (l : List Charge) → rising l ≡ true
    → chain (λ f. to (Not f)) (to (Is a n)) l ≡ to (judged l a n)
unfolding chain named least judged
chain_least to a n [] e = refl
chain_least to a n (f when q ∷ l) e = by q (rising_leads f q l e) (chain_least to a n l (rising_tail f q l e)) where
  by : (q : Bool) → Leads f (least (named l)) → chain (λ f. to (Not f)) (to (Is a n)) l ≡ to (found a n (least (named l)))
      → cond q (to (Not f)) (chain (λ f. to (Not f)) (to (Is a n)) l) ≡ to (found a n (least (cond q (f ∷ named l) (named l))))
  by true i ih = rw (lower_first i)
  by false i ih = ih

-- ---- what is judged with nothing at fault has no charge that is named
pub data Clear : List Charge → Type 0 where
  none : Clear []
  clear : {f : Fault} {q : Bool} {l : List Charge} → q ≡ false → Clear l → Clear (f when q ∷ l)

pub data Judged {A : Type 0} (l : List Charge) (a : A) (n : ℕ) : Result A → Type 0 where
  fine : Clear l → Judged l a n (Is a n)
  faulty : {f : Fault} → Judged l a n (Not f)

never_clean : {A : Type 0} (f : Fault) (x : Finding) → lower f x ≡ clean → A
unfolding lower
never_clean f clean e = never cc
never_clean f (first g) e = by (goes_before f g) e where
  by : {A : Type 0} (q : Bool) → cond q (first f) (first g) ≡ clean → A
  by true e = never cc
  by false e = never cc

clears : (l : List Charge) → least (named l) ≡ clean → Clear l
unfolding named least
clears [] e = none
clears (f when q ∷ l) e = by q e (clears l) where
  by : (q : Bool) → least (cond q (f ∷ named l) (named l)) ≡ clean → (least (named l) ≡ clean → Clear l) → Clear (f when q ∷ l)
  by true e ih = never_clean f (least (named l)) e
  by false e ih = clear refl (ih e)

pub judged_view : {A : Type 0} (l : List Charge) (a : A) (n : ℕ) → Judged l a n (judged l a n)
unfolding judged
judged_view l a n = by (least (named l)) refl where
  by : (x : Finding) → least (named l) ≡ x → Judged l a n (found a n x)
  by clean e = fine (clears l e)
  by (first f) e = faulty

-- ---- THE LEAST: it is one of the faults, and none of them goes before it
pub data In (f : Fault) : List Fault → Type 0 where
  here : {l : List Fault} → In f (f ∷ l)
  there : {g : Fault} {l : List Fault} → In f l → In f (g ∷ l)

turned : (f g : Fault) → goes_before f g ≡ false → Sooner g f
unfolding goes_before
turned f g = by (ltb f.number g.number) (eqb f.number g.number) (leb f.place g.place) refl refl refl where
  by : (x y z : Bool) → ltb f.number g.number ≡ x → eqb f.number g.number ≡ y → leb f.place g.place ≡ z
      → cond x true (cond y z false) ≡ false → Sooner g f
  by true y z i j k e = never cc
  by false true true i j k e = never cc
  by false true false i j k e =
      let h = eqb-true f.number g.number j in
      let l = leb-false f.place g.place k in
      record { number = omega arith; place = λ e. omega arith }
  by false false z i j k e =
      let h = ltb-false f.number g.number i in
      let l = eqb-false f.number g.number j in
      record { number = h; place = λ e. absurd (l (sym e)) }

pub data Lowest (l : List Fault) : Finding → Type 0 where
  nothing : l ≡ [] → Lowest l clean
  lowest : {f : Fault} → In f l → ((g : Fault) → In g l → Sooner f g) → Lowest l (first f)

pub least_lowest : (l : List Fault) → Lowest l (least l)
unfolding least lower
least_lowest [] = nothing refl
least_lowest (f ∷ l) = by (least_lowest l) where
  self : (f : Fault) → Sooner f f
  self f = record { number = omega arith; place = λ e. omega arith }

  only : l ≡ [] → (g : Fault) → In g (f ∷ l) → Sooner f g
  only e g i = on e i where
    on : {m : List Fault} {g : Fault} → m ≡ [] → In g (f ∷ m) → Sooner f g
    on e here = self f
    on e (there i) = empty e i where
      empty : {m : List Fault} {g : Fault} → m ≡ [] → In g m → Sooner f g
      empty e here = never cc
      empty e (there i) = never cc

  choose : (g : Fault) (q : Bool) → goes_before f g ≡ q → In g l → ((h : Fault) → In h l → Sooner g h)
      → Lowest (f ∷ l) (cond q (first f) (first g))
  choose g true b i s = lowest here (λ h j. on j) where
    on : {h : Fault} → In h (f ∷ l) → Sooner f h
    on here = self f
    on {h} (there j) = sooner_trans (sooner f g b) (s h j)
  choose g false b i s = lowest (there i) (λ h j. on j) where
    on : {h : Fault} → In h (f ∷ l) → Sooner g h
    on here = turned f g b
    on {h} (there j) = s h j

  by : {x : Finding} → Lowest l x → Lowest (f ∷ l) (lower f x)
  by (nothing e) = lowest here (only e)
  by (lowest {f = g} i s) = choose g (goes_before f g) refl i s
