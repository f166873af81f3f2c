use borrow.Author.Tests.{eq-eqb, ne_eqb}
use Rattle.tags.specs.rule.Tag.{form_of}
use Rattle.tags.proofs.form_of.Goals as goal

pub returns-then-slot-eq1 : goal.returns-then-slot-eq1
unfolding form_of
returns-then-slot-eq1 c = rw (eq-eqb _ 1 c.if-slot-eq1.true)

pub returns-then-slot-eq2 : goal.returns-then-slot-eq2
unfolding form_of
returns-then-slot-eq2 c = rw (ne_eqb _ 1 c.if-slot-eq1.false, eq-eqb _ 2 c.if-slot-eq2.true)

pub returns-then-slot-eq3 : goal.returns-then-slot-eq3
unfolding form_of
returns-then-slot-eq3 c = rw (ne_eqb _ 1 c.if-slot-eq1.false, ne_eqb _ 2 c.if-slot-eq2.false, eq-eqb _ 3 c.if-slot-eq3.true)

pub returns-else-slot-eq3 : goal.returns-else-slot-eq3
unfolding form_of
returns-else-slot-eq3 c = rw (ne_eqb _ 1 c.if-slot-eq1.false, ne_eqb _ 2 c.if-slot-eq2.false, ne_eqb _ 3 c.if-slot-eq3.false)
