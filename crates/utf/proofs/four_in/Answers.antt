use native.Mathlib.Omega.{arith}
use Rattle.utf.specs.rule.Cut.{four_in}
use lib.ListN.{drop, length-drop}
use Rattle.utf.proofs.Strides.{four_short, drop_3}
use Rattle.utf.proofs.four_in.Goals as goal

pub returns-then-d-at-lt3 : goal.returns-then-d-at-lt3
returns-then-d-at-lt3 c = rw (four_short c.args.a (drop c.args.at c.args.d.now)
    (omega (arith, length-drop c.args.at c.args.d.now)))

pub returns-then-four : goal.returns-then-four
unfolding four_in
returns-then-four c =
    let args = c.args in
    rw (
      drop_3 args.d.now args.at (omega arith),
      ← c.four.ensures,
      c.if-four.true,
    )

pub returns-else-four : goal.returns-else-four
unfolding four_in
returns-else-four c =
    let args = c.args in
    rw (
      drop_3 args.d.now args.at (omega arith),
      ← c.four.ensures,
      c.if-four.false,
    )
