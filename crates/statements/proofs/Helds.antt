-- What a number says, held at 10 ^ 15, and the number that stands between its places.
use Rattle.std.specs.Prelude.{Ok, Err}
use mathlib.Core.Path.{◌≡◌, refl, ◌∙◌, sym, ap}
use mathlib.Core.Bool.{Bool, true, false, cond}
use mathlib.Core.List.{List}
use Prim.Native.Nat.{ℕ, ◌<◌}
use native.Mathlib.Omega.{arith}
use lib.Dec.{eqb, ltb}
use borrow.Author.Tests.{lt-ltb, le-ltb, ltb-true, ltb-false}
use Rattle.scan.specs.rule.Text.{text}
use Rattle.scan.specs.Number.{capped, digits_from}
use Rattle.scan.proofs.Orders.{run_value}
use Rattle.tokens.specs.declared.Figures.{Figures}
use Rattle.tokens.specs.rule.Gap.{fault, OrFault}
use Rattle.tokens.specs.Gap.{gap_on}
use Rattle.tokens.specs.Token.{of_digits, number_here, number_on}
use Rattle.statements.specs.Position.{true_of, Held, of_number, of_fault}

-- two that differ as they are held differ so in truth
pub held_less : (v w : ℕ) → (capped v ≡ capped w → ⊥) → ltb (capped v) (capped w) ≡ ltb v w
held_less v w = by (ltb 1000000000000000 v) (ltb 1000000000000000 w) refl refl where
  by : (p q : Bool) → ltb 1000000000000000 v ≡ p → ltb 1000000000000000 w ≡ q
      → (cond p 1000000000000000 v ≡ cond q 1000000000000000 w → ⊥)
      → ltb (cond p 1000000000000000 v) (cond q 1000000000000000 w) ≡ ltb v w
  by true true e g f = absurd (f refl)
  by true false e g f =
      let i = ltb-true 1000000000000000 v e in
      let j = ltb-false 1000000000000000 w g in
      le-ltb 1000000000000000 w (omega arith) ∙ sym (le-ltb v w (omega arith))
  by false true e g f =
      let i = ltb-false 1000000000000000 v e in
      let j = ltb-true 1000000000000000 w g in
      let k : v < 1000000000000000 = omega arith in
      lt-ltb v 1000000000000000 k ∙ sym (lt-ltb v w (omega arith))
  by false false e g f = refl

-- two that are the same below the limit are the same in truth
pub held_same : (v w : ℕ) → capped v ≡ capped w → capped w < 1000000000000000 → false ≡ ltb v w
held_same v w = by (ltb 1000000000000000 v) (ltb 1000000000000000 w) refl refl where
  by : (p q : Bool) → ltb 1000000000000000 v ≡ p → ltb 1000000000000000 w ≡ q → cond p 1000000000000000 v ≡ cond q 1000000000000000 w
      → cond q 1000000000000000 w < 1000000000000000 → false ≡ ltb v w
  by true true e g f l = absurd (omega arith)
  by true false e g f l = absurd (omega arith)
  by false true e g f l = absurd (omega arith)
  by false false e g f l = sym (le-ltb v w (omega arith))

-- the same of what is held so
module _ (s t v w : ℕ) (e : s ≡ capped v) (g : t ≡ capped w) where
  pub size_less : (s ≡ t → ⊥) → ltb s t ≡ ltb v w
  size_less f = rw (e, g) (held_less v w (λ i. f (e ∙ i ∙ sym g)))

  pub size_same : s ≡ t → t < 1000000000000000 → false ≡ ltb v w
  size_same i l = held_same v w (sym e ∙ i ∙ g) (rw g at l)

-- a number that was read
pub number_held : (d : List ℕ) (t : OrFault ℕ) → Held d (number_on d t)
unfolding number_on number_here of_digits digits_from
number_held d t = by (gap_on d t) where
  by : (g : OrFault ℕ) → Held d (number_here d g)
  by (Err f) = of_fault
  by (Ok n) = told (eqb (digits_from 0 0 n (text d n)).count 0) where
    told : (q : Bool) → Held d (cond q (Err (fault 2 n))
        (Ok (record {
          size = (digits_from 0 0 n (text d n)).size;
          count = (digits_from 0 0 n (text d n)).count;
          place = n;
          next = (digits_from 0 0 n (text d n)).next;
        })))
    told true = of_fault
    told false = of_number (ap capped (sym (run_value d n)))

pub held_by : (d : List ℕ) (t : OrFault ℕ) {r : OrFault Figures} → r ≡ number_on d t → Held d r
held_by d t e = rw e (number_held d t)

pub held_size : {d : List ℕ} {n : OrFault Figures} {x : Figures} → Held d n → n ≡ Ok x → x.size ≡ capped (true_of d x)
held_size {x = x} (of_number {x = y} e) i = let j : y ≡ x = cc in rw j at e
held_size of_fault i = let z : ◌≡◌ {A = ℕ} 0 1 = cc in absurd (omega arith)
