use mathlib.Core.Path.{refl}
use borrow.Author.Tests.{leb-true}
use Rattle.below.specs.Below.{holds_not}
use Rattle.scan.proofs.Words.{upper_miss}
use Rattle.scan.proofs.unlike.Goals as goal

pub returns-then-b-x : goal.returns-then-b-x
returns-then-b-x c e = holds_not e refl

pub returns-then-b-x-2 : goal.returns-then-b-x-2
returns-then-b-x-2 c e = holds_not e refl

pub returns : goal.returns
returns c e = (leb-true 32 _ e, upper_miss _ _ c.if-b-x.false c.if-b-x-2.false)
