use mathlib.Core.Path.{◌≡◌}
use Prim.Native.Nat.{ℕ}
use borrow.Author.Tests.{eqb-true}
use native.Mathlib.Omega.{arith}
use Rattle.marks.proofs.Strings.{form_quote, form_brace}
use Rattle.marks.proofs.form_at.Goals as goal

pub returns-then-d-lt3 : goal.returns-then-d-lt3
returns-then-d-lt3 c e = let z : ◌≡◌ {A = ℕ} 0 1 = cc in absurd (omega arith)

pub returns-then-d-n : goal.returns-then-d-n
returns-then-d-n c e = let z : ◌≡◌ {A = ℕ} 0 1 = cc in absurd (omega arith)

pub returns-then-d-n-ne123 : goal.returns-then-d-n-ne123
returns-then-d-n-ne123 c e = let z : ◌≡◌ {A = ℕ} 0 1 = cc in absurd (omega arith)

pub returns-then-d-n-ne125 : goal.returns-then-d-n-ne125
returns-then-d-n-ne125 c e = let z : ◌≡◌ {A = ℕ} 0 1 = cc in absurd (omega arith)

pub returns-then-b-eq34 : goal.returns-then-b-eq34
returns-then-b-eq34 c e = (omega arith, form_quote _ _ (omega arith) (omega arith) (omega arith) (omega arith))

pub returns : goal.returns
returns c e = (omega arith, form_brace _ _ (omega arith) (omega arith) (omega arith) (eqb-true _ _ e))
