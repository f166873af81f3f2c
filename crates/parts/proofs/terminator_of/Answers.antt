-- `parts::terminator_of` meets its contract, number by number.
use borrow.Author.Tests.{eq-eqb, ne_eqb}
use Rattle.parts.specs.rule.Part.{numbered}
use Rattle.parts.proofs.terminator_of.Goals as goal

pub returns-then-number-eq1 : goal.returns-then-number-eq1
unfolding numbered
returns-then-number-eq1 c = rw (eq-eqb _ _ c.if-number-eq1.true)

pub returns-then-number-eq2 : goal.returns-then-number-eq2
unfolding numbered
returns-then-number-eq2 c = rw (ne_eqb _ _ c.if-number-eq1.false, eq-eqb _ _ c.if-number-eq2.true)

pub returns-then-number-eq3 : goal.returns-then-number-eq3
unfolding numbered
returns-then-number-eq3 c = rw (ne_eqb _ _ c.if-number-eq1.false, ne_eqb _ _ c.if-number-eq2.false, eq-eqb _ _ c.if-number-eq3.true)

pub returns-then-number-eq4 : goal.returns-then-number-eq4
unfolding numbered
returns-then-number-eq4 c =
    rw (
      ne_eqb _ _ c.if-number-eq1.false,
      ne_eqb _ _ c.if-number-eq2.false,
      ne_eqb _ _ c.if-number-eq3.false,
      eq-eqb _ _ c.if-number-eq4.true,
    )

pub returns : goal.returns
unfolding numbered
returns c =
    rw (
      ne_eqb _ _ c.if-number-eq1.false,
      ne_eqb _ _ c.if-number-eq2.false,
      ne_eqb _ _ c.if-number-eq3.false,
      ne_eqb _ _ c.if-number-eq4.false,
    )
