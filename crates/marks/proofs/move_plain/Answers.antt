use borrow.Author.Tests.{eq-eqb, ne_eqb}
use Rattle.marks.specs.rule.Marks.{inside_of}
use Rattle.marks.proofs.move_plain.Goals as goal

pub returns-then-b-eq34 : goal.returns-then-b-eq34
unfolding inside_of
returns-then-b-eq34 c = rw (eq-eqb _ 34 c.if-b-eq34.true)

pub returns-then-b-eq123 : goal.returns-then-b-eq123
unfolding inside_of
returns-then-b-eq123 c = rw (ne_eqb _ 34 c.if-b-eq34.false, eq-eqb _ 123 c.if-b-eq123.true)

pub returns-else-b-eq123 : goal.returns-else-b-eq123
unfolding inside_of
returns-else-b-eq123 c = rw (ne_eqb _ 34 c.if-b-eq34.false, ne_eqb _ 123 c.if-b-eq123.false)
