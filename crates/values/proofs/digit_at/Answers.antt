use mathlib.Core.Path.{refl}
use borrow.Author.Tests.{leb-true}
use native.Mathlib.Omega.{arith}
use Rattle.below.specs.Below.{holds_not}
use Rattle.values.proofs.Nexts.{digit_next}
use Rattle.values.proofs.digit_at.Goals as goal

pub returns-then-d-at : goal.returns-then-d-at
returns-then-d-at c e = holds_not e refl

pub returns-then-b-lt48 : goal.returns-then-b-lt48
returns-then-b-lt48 c e = holds_not e refl

pub returns : goal.returns
returns c e = digit_next _ _ (omega arith) (omega arith) (leb-true _ 57 e)
