use Prim.Native.Nat.{◌+◌}
use lib.ListN.{length}
use native.Mathlib.Omega.{arith}
use borrow.Author.Tests.{eq-eqb, ne_eqb, le-leb, lt-leb}
use Rattle.attributes.specs.rule.Attribute.{slash_of}
use Rattle.attributes.proofs.slash.Goals as goal

pub returns-then-d-m : goal.returns-then-d-m
unfolding slash_of
returns-then-d-m c = rw (
  le-leb (length c.args.d.now) (c.args.n + 1) (omega arith),
  c.end_fault.ensures,
)

pub returns-then-d-m-eq62 : goal.returns-then-d-m-eq62
unfolding slash_of
returns-then-d-m-eq62 c = rw (
  lt-leb (length c.args.d.now) (c.args.n + 1)
      (omega arith),
  eq-eqb _ 62 c.if-d-m-eq62.true,
)

pub returns : goal.returns
unfolding slash_of
returns c = rw (
  lt-leb (length c.args.d.now) (c.args.n + 1)
      (omega arith),
  ne_eqb _ 62 c.if-d-m-eq62.false,
)
