use mathlib.Core.Path.{refl}
use borrow.Author.Rules.{rules}
use borrow.Author.Tests.{leb-true}
use Rattle.below.specs.Below.{holds_not}
use Rattle.clean.proofs.ample.Goals as goal

pub returns-then-bytes-gt349525 : goal.returns-then-bytes-gt349525
returns-then-bytes-gt349525 c e = holds_not e refl

pub returns : goal.returns
returns c e = (search rules, leb-true _ _ e)
