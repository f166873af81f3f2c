use native.Mathlib.Omega.{arith}
use borrow.Author.Tests.{lt-ltb, le-ltb}
use Rattle.scan.specs.Number.{push_of}
use Rattle.scan.proofs.pushed.Goals as goal

pub returns-then-r-gt-CAP : goal.returns-then-r-gt-CAP
unfolding push_of
returns-then-r-gt-CAP c = (rw (← c.digit_of.ensures.0, lt-ltb _ _ c.if-r-gt-CAP.true), omega arith)

pub returns-else-r-gt-CAP : goal.returns-else-r-gt-CAP
unfolding push_of
returns-else-r-gt-CAP c = (rw (← c.digit_of.ensures.0, le-ltb _ _ c.if-r-gt-CAP.false), omega arith)
