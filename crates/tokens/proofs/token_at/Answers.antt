use mathlib.Core.Path.{◌≡◌}
use Prim.Native.Nat.{ℕ}
use borrow.Author.Tests.{eqb-false, not-true}
use native.Mathlib.Omega.{arith}
use Rattle.tokens.proofs.Gaps.{gap_token}
use Rattle.tokens.proofs.token_at.Goals as goal

pub returns-then-d-n : goal.returns-then-d-n
returns-then-d-n c e = let z : ◌≡◌ {A = ℕ} 0 1 = cc in absurd (omega arith)

pub returns-then-b-le32 : goal.returns-then-b-le32
returns-then-b-le32 c e = let z : ◌≡◌ {A = ℕ} 0 1 = cc in absurd (omega arith)

pub returns : goal.returns
returns c e = gap_token _ _ (omega arith) (omega arith) (eqb-false _ _ (not-true _ e))
