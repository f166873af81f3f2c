use mathlib.Core.Path.{◌∙◌, sym}
use borrow.Author.Tests.{eq-eqb, ne_eqb}
use Rattle.marks.specs.rule.Marks.{inside_of}
use Rattle.marks.proofs.move_inside.Goals as goal

pub returns-then-b-eq125-2 : goal.returns-then-b-eq125-2
unfolding inside_of
returns-then-b-eq125-2 c = rw (c.in-Pair.is, eq-eqb _ 125 c.if-b-eq125-2.true)

pub returns-in-Plain : goal.returns-in-Plain
returns-in-Plain c = c.move_plain.ensures ∙ rw c.in-Plain.is

pub returns-in-Opened : goal.returns-in-Opened
returns-in-Opened c = c.move_opened.ensures ∙ rw c.in-Opened.is

pub returns-then-b-eq125 : goal.returns-then-b-eq125
unfolding inside_of
returns-then-b-eq125 c = rw (c.in-Shut.is, eq-eqb _ 125 c.if-b-eq125.true)

pub returns-else-b-eq125 : goal.returns-else-b-eq125
unfolding inside_of
returns-else-b-eq125 c = rw (c.in-Shut.is, ne_eqb _ 125 c.if-b-eq125.false)

pub returns-then-b-eq76 : goal.returns-then-b-eq76
unfolding inside_of
returns-then-b-eq76 c = rw (c.in-Ell.is, eq-eqb _ 76 c.if-b-eq76.true)

pub returns-else-b-eq76 : goal.returns-else-b-eq76
unfolding inside_of
returns-else-b-eq76 c = rw (c.in-Ell.is, ne_eqb _ 76 c.if-b-eq76.false)

pub returns-then-is_hex : goal.returns-then-is_hex
unfolding inside_of
returns-then-is_hex c = rw (
  c.in-Pair.is,
  ne_eqb _ 125 c.if-b-eq125-2.false,
  sym c.is_hex.ensures ∙ c.if-is_hex.true,
)

pub returns-else-is_hex : goal.returns-else-is_hex
unfolding inside_of
returns-else-is_hex c = rw (
  c.in-Pair.is,
  ne_eqb _ 125 c.if-b-eq125-2.false,
  sym c.is_hex.ensures ∙ c.if-is_hex.false,
)

pub returns-then-is_hex-2 : goal.returns-then-is_hex-2
unfolding inside_of
returns-then-is_hex-2 c = rw (c.in-Low.is, sym c.is_hex-in-Low.ensures ∙ c.if-is_hex-2.true)

pub returns-else-is_hex-2 : goal.returns-else-is_hex-2
unfolding inside_of
returns-else-is_hex-2 c = rw (c.in-Low.is, sym c.is_hex-in-Low.ensures ∙ c.if-is_hex-2.false)
