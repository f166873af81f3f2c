use native.Mathlib.Omega.{arith}
use Rattle.utf.specs.rule.Cut.{two_in}
use lib.ListN.{drop, length-drop}
use Rattle.utf.proofs.Strides.{two_short, drop_1}
use Rattle.utf.proofs.two_in.Goals as goal

pub returns-then-d-at-lt1 : goal.returns-then-d-at-lt1
returns-then-d-at-lt1 c = rw (two_short c.args.a (drop c.args.at c.args.d.now)
    (omega (arith, length-drop c.args.at c.args.d.now)))

pub returns-then-pair : goal.returns-then-pair
unfolding two_in
returns-then-pair c = rw (
  drop_1 c.args.d.now c.args.at
      (omega arith),
  ← c.pair.ensures,
  c.if-pair.true,
)

pub returns-else-pair : goal.returns-else-pair
unfolding two_in
returns-else-pair c = rw (
  drop_1 c.args.d.now c.args.at
      (omega arith),
  ← c.pair.ensures,
  c.if-pair.false,
)
