-- A keyword is matched exactly where its letters stand, each in either case.
use mathlib.Core.Logic.{◌↔◌}
use mathlib.Core.Path.{◌≡◌, refl}
use mathlib.Core.Bool.{Bool, true, false, cond}
use mathlib.Core.List.{List, [], ◌∷◌}
use Prim.Native.Nat.{ℕ, ◌+◌, ◌-◌, ◌≤◌}
use native.Mathlib.Omega.{arith}
use lib.Dec.{ltb, leb, eqb}
use Rattle.below.specs.Below.{holds_not}
use Rattle.ascii.specs.rule.Class.{upper_of}
use borrow.Author.Tests.{lt-ltb, le-ltb, le-leb, ltb-false, leb-true, leb-false, eqb-true, eq-eqb}
use Rattle.scan.specs.rule.Text.{Text, stop, sign, text}
use Rattle.scan.specs.declared.Word.TheVariants.{Matched, Not}
use Rattle.scan.specs.rule.Word.{word_of, word_at}
use Rattle.scan.specs.Word.{Either, capital, small, Written, none, one, capitals}

record Capital (x : ℕ) (w : List ℕ) : Type 0 where
  low : 65 ≤ x
  high : x ≤ 90
  rest : capitals w ≡ true

capital_of : (x : ℕ) (w : List ℕ) → capitals (x ∷ w) ≡ true → Capital x w
unfolding capitals
capital_of x w = by (leb 65 x) (leb x 90) refl refl where
  by : (p q : Bool) → leb 65 x ≡ p → leb x 90 ≡ q → cond p (cond q (capitals w) false) false ≡ true → Capital x w
  by true true f g e = record { low = leb-true 65 x f; high = leb-true x 90 g; rest = e }
  by true false f g e = holds_not e refl
  by false q f g e = holds_not e refl

either_of : (x b : ℕ) → 65 ≤ x → x ≤ 90 → upper_of b ≡ x → Either x b
unfolding upper_of
either_of x b l h = by (ltb b 97) (leb b 122) refl refl where
  by : (p q : Bool) → ltb b 97 ≡ p → leb b 122 ≡ q → cond p b (cond q (b - 32) b) ≡ x → Either x b
  by true q f g e = rw e capital
  by false true f g e = let i = ltb-false b 97 f in let j : b ≡ x + 32 = omega arith in rw j small
  by false false f g e = let i = leb-false b 122 g in absurd (omega arith)

upper_of_lem : {x b : ℕ} → 65 ≤ x → x ≤ 90 → Either x b → upper_of b ≡ x
unfolding upper_of
upper_of_lem {x} l h capital = rw (lt-ltb x 97 (omega arith))
upper_of_lem {x} l h small = rw (le-ltb (x + 32) 97 (omega arith), le-leb (x + 32) 122 (omega arith)) (omega arith)

module _ (n : ℕ) where
  word_sound : (w : List ℕ) (t : Text) (at : ℕ) → capitals w ≡ true → word_of at t w ≡ Matched n → Written w at t n
  unfolding word_of
  word_sound [] t at k e = let h : at ≡ n = cc in rw h none
  word_sound (x ∷ w) (stop p) at k e = let z : ◌≡◌ {A = ℕ} 0 1 = cc in absurd (omega arith)
  word_sound (x ∷ w) (sign p b t) at k e =
      let c = capital_of x w k in by c (eqb (upper_of b) x) refl (word_sound w t (p + 1) c.rest) e where
        by : Capital x w → (q : Bool) → eqb (upper_of b) x ≡ q → (word_of (p + 1) t w ≡ Matched n → Written w (p + 1) t n)
            → cond q (word_of (p + 1) t w) Not ≡ Matched n → Written (x ∷ w) at (sign p b t) n
        by c true f ih e = one (either_of x b c.low c.high (eqb-true (upper_of b) x f)) (ih e)
        by c false f ih e = let z : ◌≡◌ {A = ℕ} 0 1 = cc in absurd (omega arith)

  word_complete : {w : List ℕ} {t : Text} {at : ℕ} → Written w at t n → capitals w ≡ true → word_of at t w ≡ Matched n
  unfolding word_of
  word_complete none k = refl
  word_complete (one {b = b} {x = x} {w = w} i r) k = let c = capital_of x w k in
      rw (eq-eqb (upper_of b) x (upper_of_lem c.low c.high i)) (word_complete r c.rest)

pub word_exactly : (d : List ℕ) (at n : ℕ) (w : List ℕ) → capitals w ≡ true → (word_at d at w ≡ Matched n) ↔ Written w at (text d at) n
unfolding word_at
word_exactly d at n w k = (word_sound n w (text d at) at k, λ r. word_complete n r k)
