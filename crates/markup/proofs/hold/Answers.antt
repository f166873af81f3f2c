use native.Mathlib.Omega.{arith}
use borrow.Author.Tests.{lt-ltb, le-ltb}
use Rattle.markup.specs.rule.Reference.{held_below}
use Rattle.markup.proofs.hold.Goals as goal

pub returns-then-v-gt-CAP : goal.returns-then-v-gt-CAP
unfolding held_below
returns-then-v-gt-CAP c = (rw (lt-ltb 2000000 c.args.v (omega arith)), omega arith)

pub returns-else-v-gt-CAP : goal.returns-else-v-gt-CAP
unfolding held_below
returns-else-v-gt-CAP c = (rw (le-ltb 2000000 c.args.v (omega arith)), omega arith)
