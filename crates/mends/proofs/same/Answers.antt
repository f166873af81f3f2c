-- `mends::same` meets its contract.
use borrow.Author.Tests.{eq-eqb, ne_eqb}
use Rattle.mends.specs.rule.Mend.{same_boundary}
use Rattle.mends.proofs.same.Goals as goal

pub returns-then-e-b : goal.returns-then-e-b
unfolding same_boundary
returns-then-e-b c = rw (ne_eqb _ _ c.if-e-b.true)

pub returns-then-e-b-2 : goal.returns-then-e-b-2
unfolding same_boundary
returns-then-e-b-2 c = rw (eq-eqb _ _ c.if-e-b.false, ne_eqb _ _ c.if-e-b-2.true)

pub returns : goal.returns
unfolding same_boundary
returns c = rw (eq-eqb _ _ c.if-e-b.false, eq-eqb _ _ c.if-e-b-2.false)
