use mathlib.Core.Path.{◌≡◌}
use Prim.Native.Nat.{ℕ}
use borrow.Author.Tests.{ltb-true}
use native.Mathlib.Omega.{arith}
use Rattle.statements.proofs.no_oh.Goals as goal

pub returns-then-d-m : goal.returns-then-d-m
returns-then-d-m c e = let z : ◌≡◌ {A = ℕ} 0 1 = cc in absurd (omega arith)

pub returns-then-b-eq79 : goal.returns-then-b-eq79
returns-then-b-eq79 c e = let z : ◌≡◌ {A = ℕ} 0 1 = cc in absurd (omega arith)

pub returns-then-b-eq111 : goal.returns-then-b-eq111
returns-then-b-eq111 c e = let z : ◌≡◌ {A = ℕ} 0 1 = cc in absurd (omega arith)

pub returns : goal.returns
returns c e = (omega arith, ltb-true 64 _ e, c.if-b-eq79.false, c.if-b-eq111.false)
