use native.Mathlib.Omega.{arith}
use borrow.Author.Tests.{lt-ltb, le-ltb}
use Rattle.markup.specs.rule.Reference.{digit_of}
use Rattle.markup.proofs.digit_of.Goals as goal

pub returns-then-x-lt48 : goal.returns-then-x-lt48
unfolding digit_of
returns-then-x-lt48 c = (rw (lt-ltb c.args.b 58 (omega arith)) (omega arith), omega arith)

pub returns-then-x-lt58 : goal.returns-then-x-lt58
unfolding digit_of
returns-then-x-lt58 c = (rw (lt-ltb c.args.b 58 (omega arith)) (omega arith), omega arith)

pub returns-then-x-lt97 : goal.returns-then-x-lt97
unfolding digit_of
returns-then-x-lt97 c = (
  rw (
    le-ltb c.args.b 58 (omega arith),
    lt-ltb c.args.b 97 (omega arith),
  ) (omega arith),
  omega arith,
)

pub returns-else-x-lt97 : goal.returns-else-x-lt97
unfolding digit_of
returns-else-x-lt97 c = (
  rw (
    le-ltb c.args.b 58 (omega arith),
    le-ltb c.args.b 97 (omega arith),
  ) (omega arith),
  omega arith,
)
