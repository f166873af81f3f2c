use lib.ListN.{length}
use native.Mathlib.Omega.{arith}
use borrow.Author.Tests.{eq-eqb, ne_eqb, le-leb, lt-leb}
use Rattle.angles.specs.rule.Angle.{end_of}
use Rattle.angles.proofs.read_end.Goals as goal

pub returns-then-d-n : goal.returns-then-d-n
unfolding end_of
returns-then-d-n c = rw (
  ← c.run-n.ensures.0,
  le-leb (length c.args.d.now) c.run-n.result (omega arith),
  c.end_fault.ensures,
)

pub returns-then-d-n-eq62 : goal.returns-then-d-n-eq62
unfolding end_of
returns-then-d-n-eq62 c = rw (
  ← c.run-n.ensures.0,
  lt-leb (length c.args.d.now) c.run-n.result (omega arith),
  eq-eqb _ 62 c.if-d-n-eq62.true,
)

pub returns : goal.returns
unfolding end_of
returns c = rw (
  ← c.run-n.ensures.0,
  lt-leb (length c.args.d.now) c.run-n.result (omega arith),
  ne_eqb _ 62 c.if-d-n-eq62.false,
)
