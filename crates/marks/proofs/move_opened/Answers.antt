use mathlib.Core.Path.{◌∙◌, sym}
use borrow.Author.Tests.{eq-eqb, ne_eqb}
use Rattle.marks.specs.rule.Marks.{inside_of}
use Rattle.marks.proofs.move_opened.Goals as goal

pub returns-then-b-eq34 : goal.returns-then-b-eq34
unfolding inside_of
returns-then-b-eq34 c = rw (eq-eqb _ 34 c.if-b-eq34.true)

pub returns-then-b-eq123 : goal.returns-then-b-eq123
unfolding inside_of
returns-then-b-eq123 c = rw (ne_eqb _ 34 c.if-b-eq34.false, eq-eqb _ 123 c.if-b-eq123.true)

pub returns-then-b-eq78 : goal.returns-then-b-eq78
unfolding inside_of
returns-then-b-eq78 c = rw (ne_eqb _ 34 c.if-b-eq34.false, ne_eqb _ 123 c.if-b-eq123.false, eq-eqb _ 78 c.if-b-eq78.true)

pub returns-then-is_hex : goal.returns-then-is_hex
unfolding inside_of
returns-then-is_hex c = rw (
  ne_eqb _ 34 c.if-b-eq34.false,
  ne_eqb _ 123 c.if-b-eq123.false,
  ne_eqb _ 78 c.if-b-eq78.false,
  sym c.is_hex.ensures ∙ c.if-is_hex.true,
)

pub returns-else-is_hex : goal.returns-else-is_hex
unfolding inside_of
returns-else-is_hex c = rw (
  ne_eqb _ 34 c.if-b-eq34.false,
  ne_eqb _ 123 c.if-b-eq123.false,
  ne_eqb _ 78 c.if-b-eq78.false,
  sym c.is_hex.ensures ∙ c.if-is_hex.false,
)
