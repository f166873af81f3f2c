use lib.ListN.{length}
use native.Mathlib.Omega.{arith}
use borrow.Author.Tests.{eq-eqb, ne_eqb, le-leb, lt-leb}
use Rattle.attributes.specs.rule.Attribute.{equals_of}
use Rattle.attributes.proofs.equals.Goals as goal

pub returns-then-d-m : goal.returns-then-d-m
unfolding equals_of
returns-then-d-m c = rw (
  le-leb (length c.args.d.now) c.args.m (omega arith),
  c.end_fault.ensures,
)

pub returns-then-d-m-eq61 : goal.returns-then-d-m-eq61
unfolding equals_of
returns-then-d-m-eq61 c =
    let args = c.args in
    rw (
      lt-leb (length args.d.now) args.m (omega arith),
      eq-eqb _ 61 c.if-d-m-eq61.true,
      ← c.run-v.ensures.0,
    ) c.valued.ensures

pub returns : goal.returns
unfolding equals_of
returns c = rw (
  lt-leb (length c.args.d.now) c.args.m
      (omega arith),
  ne_eqb _ 61 c.if-d-m-eq61.false,
)
