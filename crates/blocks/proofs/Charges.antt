-- Charges of one number behind charges of lower ones: they count only where none of those is named.
use mathlib.Core.Path.{◌≡◌, refl}
use mathlib.Core.Bool.{Bool, true, false, cond}
use mathlib.Core.List.{List, [], ◌∷◌, ◌++◌}
use Prim.Native.Nat.{ℕ, ◌<◌}
use native.Mathlib.Omega.{arith}
use borrow.Author.Tests.{lt-ltb}
use Rattle.tokens.specs.declared.Fault.{Fault}
use Rattle.reading.specs.rule.Result.{Result, Is, bind}
use Rattle.bridge.specs.Lowest.{never, Clear, Judged, fine, faulty, judged_view}
use Rattle.reading.specs.rule.Least.{Charge, ◌when◌, named, goes_before, Finding, clean, first, lower, least, found, judged}

-- every charge has a number below k; every charge has the number k
abbrev pub Early : ℕ → List Charge → Type 0
Early k [] = Unit
Early k (f when q ∷ l) = (f.number < k) × Early k l

abbrev pub Late : ℕ → List Charge → Type 0
Late k [] = Unit
Late k (f when q ∷ l) = (f.number ≡ k) × Late k l

data LateFound (k : ℕ) : Finding → Type 0 where
  nothing : LateFound k clean
  one : {f : Fault} → f.number ≡ k → LateFound k (first f)

lower_late : {k : ℕ} (f : Fault) {x : Finding} → f.number ≡ k → LateFound k x → LateFound k (lower f x)
unfolding lower
lower_late f e nothing = one e
lower_late {k} f e (one {f = g} h) = by (goes_before f g) where
  by : (q : Bool) → LateFound k (cond q (first f) (first g))
  by true = one e
  by false = one h

late_found : (k : ℕ) (l : List Charge) → Late k l → LateFound k (least (named l))
unfolding least named
late_found k [] t = nothing
late_found k (f when q ∷ l) t = by q (late_found k l t.1) where
  by : (q : Bool) → LateFound k (least (named l)) → LateFound k (least (cond q (f ∷ named l) (named l)))
  by true ih = lower_late f t.0 ih
  by false ih = ih

lower_early : {k : ℕ} (f : Fault) {x : Finding} → f.number < k → LateFound k x → lower f x ≡ first f
unfolding lower goes_before
lower_early f h nothing = refl
lower_early f h (one {f = g} e) = rw (lt-ltb f.number g.number (omega arith))

abbrev pub or_else : Finding → Finding → Finding
or_else clean y = y
or_else (first f) y = first f

split : (k : ℕ) (l m : List Charge) → Early k l → Late k m → least (named (l ++ m)) ≡ or_else (least (named l)) (least (named m))
unfolding least named lower
split k [] m e t = refl
split k (f when q ∷ l) m e t = by q (split k l m e.1 t) where
  on : (x : Finding) → lower f (or_else x (least (named m))) ≡ or_else (lower f x) (least (named m))
  on clean = lower_early f e.0 (late_found k m t)
  on (first g) = each (goes_before f g) where
    each : (q : Bool) → cond q (first f) (first g) ≡ or_else (cond q (first f) (first g)) (least (named m))
    each true = refl
    each false = refl

  by : (q : Bool) → least (named (l ++ m)) ≡ or_else (least (named l)) (least (named m))
      → least (cond q (f ∷ named (l ++ m)) (named (l ++ m))) ≡ or_else (least (cond q (f ∷ named l) (named l))) (least (named m))
  by true ih = rw ih (on (least (named l)))
  by false ih = ih

pub judged_split : {A : Type 0} (k : ℕ) (l m : List Charge) → Early k l → Late k m → (a : A) (n : ℕ)
    → judged (l ++ m) a n ≡ bind (judged l a n) (λ a n. judged m a n)
unfolding judged
judged_split k l m e t a n = rw (split k l m e t) (by (least (named l))) where
  by : (x : Finding) → found a n (or_else x (least (named m))) ≡ bind (found a n x) (λ a n. found a n (least (named m)))
  by clean = refl
  by (first f) = refl

-- a thing that was judged, with nothing at fault
pub judged_clear : {A : Type 0} (l : List Charge) (a : A) (n : ℕ) {b : A} {m : ℕ} → judged l a n ≡ Is b m → Clear l × (b ≡ a) × (m ≡ n)
judged_clear {A} l a n {b} {m} = by (judged_view l a n) where
  by : {r : Result A} → Judged l a n r → r ≡ Is b m → Clear l × (b ≡ a) × (m ≡ n)
  by (fine c) e = (c, cc, cc)
  by faulty e = never cc
