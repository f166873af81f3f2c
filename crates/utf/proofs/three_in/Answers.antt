use native.Mathlib.Omega.{arith}
use Rattle.utf.specs.rule.Cut.{three_in}
use lib.ListN.{drop, length-drop}
use Rattle.utf.proofs.Strides.{three_short, drop_2}
use Rattle.utf.proofs.three_in.Goals as goal

pub returns-then-d-at-lt2 : goal.returns-then-d-at-lt2
returns-then-d-at-lt2 c = rw (three_short c.args.a (drop c.args.at c.args.d.now)
    (omega (arith, length-drop c.args.at c.args.d.now)))

pub returns-then-triple : goal.returns-then-triple
unfolding three_in
returns-then-triple c =
    let args = c.args in
    rw (
      drop_2 args.d.now args.at (omega arith),
      ← c.triple.ensures,
      c.if-triple.true,
    )

pub returns-else-triple : goal.returns-else-triple
unfolding three_in
returns-else-triple c =
    let args = c.args in
    rw (
      drop_2 args.d.now args.at (omega arith),
      ← c.triple.ensures,
      c.if-triple.false,
    )
