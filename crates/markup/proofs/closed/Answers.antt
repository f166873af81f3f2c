use native.Mathlib.Omega.{arith}
use borrow.Author.Tests.{eq-eqb, ne_eqb}
use lib.ListN.{drop_of_length-le}
use Rattle.markup.specs.rule.Reference.{closed_reference}
use Rattle.utf.proofs.Strides.{drop_1}
use Rattle.markup.proofs.closed.Goals as goal

pub returns-then-d-n : goal.returns-then-d-n
unfolding closed_reference
returns-then-d-n c = rw (drop_of_length-le c.args.d.now c.if-d-n.true)

pub returns-then-is_legal : goal.returns-then-is_legal
unfolding closed_reference
returns-then-is_legal c =
    let args = c.args in
    rw (
      drop_1 args.d.now args.n (omega arith),
      eq-eqb _ 59 c.if-d-n-eq59.true,
      ← c.is_legal.ensures,
      c.if-is_legal.true,
    )

pub returns-then-d-n-eq59 : goal.returns-then-d-n-eq59
unfolding closed_reference
returns-then-d-n-eq59 c =
    let args = c.args in
    rw (
      drop_1 args.d.now args.n (omega arith),
      eq-eqb _ 59 c.if-d-n-eq59.true,
      ← c.is_legal.ensures,
      c.if-is_legal.false,
    )

pub returns : goal.returns
unfolding closed_reference
returns c = rw (
  drop_1 c.args.d.now c.args.n (omega arith),
  ne_eqb _ 59 c.if-d-n-eq59.false,
)
