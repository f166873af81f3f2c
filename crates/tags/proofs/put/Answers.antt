use borrow.Author.Tests.{eq-eqb, ne_eqb}
use Rattle.tags.specs.rule.Tag.{put_of}
use Rattle.tags.proofs.put.Goals as goal

pub returns-then-slot-eq1 : goal.returns-then-slot-eq1
unfolding put_of
returns-then-slot-eq1 c = rw (eq-eqb _ 1 c.if-slot-eq1.true) c.place_value.ensures

pub returns-then-slot-eq2 : goal.returns-then-slot-eq2
unfolding put_of
returns-then-slot-eq2 c = rw (ne_eqb _ 1 c.if-slot-eq1.false, eq-eqb _ 2 c.if-slot-eq2.true) c.place_value-then-slot-eq2.ensures

pub returns-then-slot-eq3 : goal.returns-then-slot-eq3
unfolding put_of
returns-then-slot-eq3 c = rw (
  ne_eqb _ 1 c.if-slot-eq1.false,
  ne_eqb _ 2 c.if-slot-eq2.false,
  eq-eqb _ 3 c.if-slot-eq3.true,
) c.place_value-then-slot-eq3.ensures

pub returns : goal.returns
unfolding put_of
returns c =
    rw (
      ne_eqb _ 1 c.if-slot-eq1.false,
      ne_eqb _ 2 c.if-slot-eq2.false,
      ne_eqb _ 3 c.if-slot-eq3.false,
      c.first_of.ensures,
    )
