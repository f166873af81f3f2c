-- What a reader answers, seen: a derivation, or where it stops. Readers one behind the other are seen so piece by piece.
use Rattle.std.specs.Prelude.{◌≡◌, refl, Bool, true, false, cond, List, [], ◌∷◌, ◌++◌, ℕ}
use Rattle.std.proofs.Common.{sym, ◌∙◌}
use Rattle.scan.specs.rule.Word.{word_at}
use Rattle.scan.specs.Word.{capitals}
use Rattle.scan.specs.declared.Word.{Word}
use Rattle.scan.specs.declared.Word.TheVariants as spelled
use Rattle.scan.proofs.Keywords.{word_exactly}
use Rattle.tokens.specs.declared.Fault.{Fault}
use Rattle.reading.specs.rule.Result.{Result, Is, Not, Reader, bind}
use Rattle.reading.specs.rule.Least.{Charge, ◌when◌, named, Finding, clean, first, least, found, judged}
use Rattle.reading.specs.rule.Token.{on_word, either}
use Rattle.bridge.specs.Lowest.{never}
use Rattle.bridge.specs.Lowest as lowest
use Rattle.grammar.specs.Token.{Here, NoWord}
use Rattle.grammar.specs.Faults.{Clean}
use Rattle.grammar.specs.Refusal.{Lowest, Then, inside, behind, Or, stands, absent}

pub data View {A : Type 0} (P : A → ℕ → Type 0) (S : Fault → Type 0) : Result A → Type 0 where
  reads : {a : A} {m : ℕ} → P a m → View P S (Is a m)
  halts : {f : Fault} → S f → View P S (Not f)

-- the same answer in other words
pub recast : {A : Type 0} {P Q : A → ℕ → Type 0} {S T : Fault → Type 0} {r : Result A} → ((a : A) (m : ℕ) → P a m → Q a m)
    → ((f : Fault) → S f → T f) → View P S r → View Q T r
recast p s (reads {a = a} {m = m} x) = reads (p a m x)
recast p s (halts {f = f} x) = halts (s f x)

-- ---- one behind the other
pub then : {A B : Type 0} {P : A → ℕ → Type 0} {S : Fault → Type 0} {Q : B → ℕ → Type 0} {T : A → ℕ → Fault → Type 0} {r : Result A}
    {k : A → Reader B} → View P S r → ((a : A) (m : ℕ) → P a m → View Q (T a m) (k a m)) → View Q (Then S P T) (bind r k)
then {P = P} {S = S} {Q = Q} {T = T} (reads {a = a} {m = m} p) g = recast (λ b o q. q) (λ f z. behind p z) (g a m p)
then (halts s) g = halts (inside s)

pub then_halted : {A B : Type 0} {P : A → ℕ → Type 0} {S : Fault → Type 0} {T : A → ℕ → Fault → Type 0} (r : Result A) (k : A → Reader B)
    → ((f : Fault) → S f → r ≡ Not f) → ((a : A) (m : ℕ) → P a m → r ≡ Is a m) → ((a : A) (m : ℕ) (f : Fault) → T a m f → k a m ≡ Not f)
    → {f : Fault} → Then S P T f → bind r k ≡ Not f
then_halted r k s p t {f} (inside z) = rw (s f z)
then_halted r k s p t {f} (behind {a = a} {m = m} x z) = rw (p a m x) (t a m f z)

-- the same, where what stops behind a thing may ask for it
pub then_halted_by : {A B : Type 0} {P : A → ℕ → Type 0} {S : Fault → Type 0} {T : A → ℕ → Fault → Type 0} (r : Result A) (k : A → Reader B)
    → ((f : Fault) → S f → r ≡ Not f) → ((a : A) (m : ℕ) → P a m → r ≡ Is a m)
    → ((a : A) (m : ℕ) (f : Fault) → P a m → T a m f → k a m ≡ Not f) → {f : Fault} → Then S P T f → bind r k ≡ Not f
then_halted_by r k s p t {f} (inside z) = rw (s f z)
then_halted_by r k s p t {f} (behind {a = a} {m = m} x z) = rw (p a m x) (t a m f x z)

-- ---- a word that may stand
module _ (d : List ℕ) {w : List ℕ} (c : capitals w ≡ true) where
  pub no_word : {n : ℕ} → word_at d n w ≡ spelled.Not → NoWord d w n
  no_word {n} e m h = let q = sym e ∙ (word_exactly d n m w c).1 h in never cc

  pub word_at_lem : {n m : ℕ} → Here d w n m → word_at d n w ≡ spelled.Matched m
  word_at_lem {n} {m} h = (word_exactly d n m w c).1 h

  pub word_not : {n : ℕ} → NoWord d w n → word_at d n w ≡ spelled.Not
  word_not {n} h = by (word_at d n w) refl where
    by : (x : Word) → word_at d n w ≡ x → word_at d n w ≡ spelled.Not
    by (spelled.Matched m) e = absurd (h m ((word_exactly d n m w c).0 e))
    by spelled.Not e = e

  pub either_view : {A : Type 0} {Q : A → ℕ → Type 0} {S : ℕ → Fault → Type 0} {T : Fault → Type 0} (n : ℕ) (p q : Reader A)
      → ((m : ℕ) → Here d w n m → View Q (S m) (p m)) → (NoWord d w n → View Q T (q n)) → View Q (Or d w n S T) (either d w p q n)
  either_view {Q = Q} {S = S} {T = T} n p q f g = by (word_at d n w) refl where
    by : (x : Word) → word_at d n w ≡ x → View Q (Or d w n S T) (on_word p q n x)
    by (spelled.Matched m) e =
        let h = (word_exactly d n m w c).0 e in
        recast (λ a o x. x) (λ i z. stands h z) (f m h)
    by spelled.Not e = let h = no_word e in recast (λ a o x. x) (λ i z. absent h z) (g h)

  pub either_halted : {A : Type 0} {S : ℕ → Fault → Type 0} {T : Fault → Type 0} (n : ℕ) (p q : Reader A)
      → ((m : ℕ) (f : Fault) → S m f → p m ≡ Not f) → ((f : Fault) → T f → q n ≡ Not f) → {f : Fault} → Or d w n S T f
      → either d w p q n ≡ Not f
  either_halted n p q s t {f} (stands {m = m} h z) = rw (word_at_lem h) (s m f z)
  either_halted n p q s t {f} (absent h z) = rw (word_not h) (t f z)

-- ---- charges
no_fault : (l : List Fault) → least l ≡ clean → l ≡ []
no_fault l e = by (lowest.least_lowest l) e where
  by : {x : Finding} → lowest.Lowest l x → x ≡ clean → l ≡ []
  by (lowest.nothing z) e = z
  by (lowest.lowest i s) e = never cc

pub judge : {A : Type 0} {Q : A → ℕ → Type 0} (l : List Charge) (a : A) (m : ℕ) → (Clean l → Q a m) → View Q (Lowest l) (judged l a m)
unfolding judged
judge {A} {Q} l a m g = by (least (named l)) refl where
  by : (x : Finding) → least (named l) ≡ x → View Q (Lowest l) (found a m x)
  by clean e = reads (g (no_fault (named l) e))
  by (first f) e = halts e

pub judged_there : {A : Type 0} (l : List Charge) (a : A) (m : ℕ) → Clean l → judged l a m ≡ Is a m
unfolding judged least
judged_there l a m c = rw c

pub judged_halted : {A : Type 0} (l : List Charge) (a : A) (m : ℕ) {f : Fault} → Lowest l f → judged l a m ≡ Not f
unfolding judged
judged_halted l a m e = rw e

-- charges one list behind the other
named_append : (l k : List Charge) → named (l ++ k) ≡ named l ++ named k
unfolding named
named_append [] k = refl
named_append (f when q ∷ l) k = by q (named_append l k) where
  by : (q : Bool) → named (l ++ k) ≡ named l ++ named k
      → cond q (f ∷ named (l ++ k)) (named (l ++ k)) ≡ cond q (f ∷ named l) (named l) ++ named k
  by true e = rw e
  by false e = e

pub clean_both : (l k : List Charge) → Clean l → Clean k → Clean (l ++ k)
clean_both l k a b = named_append l k ∙ rw (a, b)

left_none : (a b : List Fault) → a ++ b ≡ [] → a ≡ []
left_none [] b e = refl
left_none (x ∷ a) b e = never cc

right_none : (a b : List Fault) → a ++ b ≡ [] → b ≡ []
right_none [] b e = e
right_none (x ∷ a) b e = never cc

pub clean_left : (l k : List Charge) → Clean (l ++ k) → Clean l
clean_left l k e = left_none (named l) (named k) (sym (named_append l k) ∙ e)

pub clean_right : (l k : List Charge) → Clean (l ++ k) → Clean k
clean_right l k e = right_none (named l) (named k) (sym (named_append l k) ∙ e)
