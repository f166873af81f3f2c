use native.Mathlib.Omega.{arith}
use Rattle.markup.specs.rule.Reference.{push_of}
use Rattle.markup.proofs.push.Goals as goal

pub returns-then-hex : goal.returns-then-hex
unfolding push_of
returns-then-hex c = (rw (c.if-hex.true, ← c.digit_of-x.ensures.0), omega arith)

pub returns-else-hex : goal.returns-else-hex
unfolding push_of
returns-else-hex c = (rw (c.if-hex.false, ← c.digit_of-x.ensures.0), omega arith)
