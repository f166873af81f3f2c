use borrow.Author.Tests.{eq-eqb, ne_eqb}
use Rattle.marks.specs.rule.Spelling.{gives_of}
use Rattle.marks.proofs.Parts.{ready_both}
use Rattle.marks.proofs.completed.Goals as goal

pub returns-then-b-eq34 : goal.returns-then-b-eq34
unfolding gives_of
returns-then-b-eq34 c = rw (c.in-Opened.is, eq-eqb _ 34 c.if-b-eq34.true)

pub hex_value-high-requires : goal.hex_value-high-requires
hex_value-high-requires c = let h = ready_both _ _ _ c.in-Low.is
    c.requires.b_value in record {
      classes = c.requires.classes;
      b_value = h.0;
    }

pub hex_value-requires : goal.hex_value-requires
hex_value-requires c = let h = ready_both _ _ _ c.in-Low.is
    c.requires.b_value in record {
      classes = c.requires.classes;
      b_value = h.1;
    }

pub returns-then-b-eq123 : goal.returns-then-b-eq123
unfolding gives_of
returns-then-b-eq123 c = rw (c.in-Plain.is, eq-eqb _ 123 c.if-b-eq123.true)

pub returns-else-b-eq123 : goal.returns-else-b-eq123
unfolding gives_of
returns-else-b-eq123 c = rw (c.in-Plain.is, ne_eqb _ 123 c.if-b-eq123.false)

pub returns-then-b-eq123-2 : goal.returns-then-b-eq123-2
unfolding gives_of
returns-then-b-eq123-2 c = rw (c.in-Opened.is, ne_eqb _ 34 c.if-b-eq34.false, eq-eqb _ 123 c.if-b-eq123-2.true)

pub returns-else-b-eq123-2 : goal.returns-else-b-eq123-2
unfolding gives_of
returns-else-b-eq123-2 c = rw (c.in-Opened.is, ne_eqb _ 34 c.if-b-eq34.false, ne_eqb _ 123 c.if-b-eq123-2.false)

pub returns-in-Shut : goal.returns-in-Shut
unfolding gives_of
returns-in-Shut c = rw c.in-Shut.is

pub returns-in-Ell : goal.returns-in-Ell
unfolding gives_of
returns-in-Ell c = rw c.in-Ell.is

pub returns-in-Pair : goal.returns-in-Pair
unfolding gives_of
returns-in-Pair c = rw c.in-Pair.is

pub returns-in-Low : goal.returns-in-Low
unfolding gives_of
returns-in-Low c = rw (c.in-Low.is, c.hex_value-high.ensures.0, c.hex_value.ensures.0)
