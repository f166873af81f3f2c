use mathlib.Core.Path.{sym}
use borrow.Author.Tests.{eq-eqb, ne_eqb}
use Rattle.values.specs.Room.{holds}
use Rattle.variables.specs.Rest.{rest_of}
use Rattle.variables.proofs.Tellings.{stored_size, stored_nothing}
use Rattle.variables.proofs.rest_on.Goals as goal

pub returns-then-kind-eq1 : goal.returns-then-kind-eq1
unfolding rest_of
returns-then-kind-eq1 c = rw (eq-eqb _ 1 c.if-kind-eq1.true)
    c.values_rest.ensures

pub returns-then-kind-eq2 : goal.returns-then-kind-eq2
unfolding rest_of
returns-then-kind-eq2 c =
    rw (
      ne_eqb _ 1 c.if-kind-eq1.false,
      eq-eqb _ 2 c.if-kind-eq2.true,
    ) c.spread_then.ensures

pub returns-then-kind-eq3 : goal.returns-then-kind-eq3
unfolding rest_of
returns-then-kind-eq3 c =
    rw (
      ne_eqb _ 1 c.if-kind-eq1.false,
      ne_eqb _ 2 c.if-kind-eq2.false,
      eq-eqb _ 3 c.if-kind-eq3.true,
    ) c.values_rest-then-kind-eq3.ensures

pub returns-then-kind-eq4 : goal.returns-then-kind-eq4
unfolding rest_of
returns-then-kind-eq4 c =
    rw (
      ne_eqb _ 1 c.if-kind-eq1.false,
      ne_eqb _ 2 c.if-kind-eq2.false,
      ne_eqb _ 3 c.if-kind-eq3.false,
      eq-eqb _ 4 c.if-kind-eq4.true,
      sym c.size_on-n.ensures,
    )
    (holds (c.join_size.ensures, stored_size _ _ _))

pub returns : goal.returns
unfolding rest_of
returns c =
    rw (
      ne_eqb _ 1 c.if-kind-eq1.false,
      ne_eqb _ 2 c.if-kind-eq2.false,
      ne_eqb _ 3 c.if-kind-eq3.false,
      ne_eqb _ 4 c.if-kind-eq4.false,
    )
    (holds (c.join_nothing.ensures, stored_nothing _ _ _))
