use borrow.Author.Tests.{eq-eqb, ne_eqb}
use Rattle.markup.specs.rule.Bytes.{of_kind}
use Rattle.markup.proofs.of_kind.Goals as goal

pub returns-then-kind-eq0 : goal.returns-then-kind-eq0
unfolding of_kind
returns-then-kind-eq0 c = rw (eq-eqb _ 0 c.if-kind-eq0.true) c.is_white.ensures

pub returns-then-kind-eq1 : goal.returns-then-kind-eq1
unfolding of_kind
returns-then-kind-eq1 c = rw (ne_eqb _ 0 c.if-kind-eq0.false, eq-eqb _ 1 c.if-kind-eq1.true) c.is_name.ensures

pub returns-then-kind-eq2 : goal.returns-then-kind-eq2
unfolding of_kind
returns-then-kind-eq2 c = rw (
  ne_eqb _ 0 c.if-kind-eq0.false,
  ne_eqb _ 1 c.if-kind-eq1.false,
  eq-eqb _ 2 c.if-kind-eq2.true,
) c.is_digit.ensures

pub returns : goal.returns
unfolding of_kind
returns c = rw (
  ne_eqb _ 0 c.if-kind-eq0.false,
  ne_eqb _ 1 c.if-kind-eq1.false,
  ne_eqb _ 2 c.if-kind-eq2.false,
) c.is_hex.ensures
