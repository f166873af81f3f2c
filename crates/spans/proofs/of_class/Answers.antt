use borrow.Author.Tests.{eq-eqb, ne_eqb}
use Rattle.spans.specs.rule.Says.{of_class}
use Rattle.spans.proofs.of_class.Goals as goal

pub returns-then-class-eq1 : goal.returns-then-class-eq1
unfolding of_class
returns-then-class-eq1 c = rw (eq-eqb _ 1 c.if-class-eq1.true) c.is_digit.ensures

pub returns-then-class-eq2 : goal.returns-then-class-eq2
unfolding of_class
returns-then-class-eq2 c = rw (ne_eqb _ 1 c.if-class-eq1.false, eq-eqb _ 2 c.if-class-eq2.true) c.is_value.ensures

pub returns : goal.returns
unfolding of_class
returns c = rw (ne_eqb _ 1 c.if-class-eq1.false, ne_eqb _ 2 c.if-class-eq2.false) c.is_letter.ensures
