use mathlib.Core.Path.{sym, ◌∙◌}
use native.Mathlib.Omega.{arith}
use Rattle.xml_reading.specs.rule.Sheet.{perhaps_element}
use Rattle.prefaces.proofs.perhaps_text.Goals as goal

pub overflow_add-place : goal.overflow_add-place
overflow_add-place c = let v = rw c.in-Start.is at c.requires in
    omega (arith, v.1, v.2)

pub is_named-requires : goal.is_named-requires
is_named-requires c =
    let v = rw c.in-Start.is at c.requires in
    (omega (arith, v.1), v.2)

pub text_then-requires : goal.text_then-requires
text_then-requires c = let v = rw c.in-Start.is at
    c.requires in v.2

pub returns-then-is_named : goal.returns-then-is_named
unfolding perhaps_element
returns-then-is_named c = (
  rw (c.in-Start.is, sym c.is_named.ensures ∙ c.if-is_named.true)
      c.text_then.ensures.0,
  c.text_then.ensures.1,
)

pub returns-else-is_named : goal.returns-else-is_named
unfolding perhaps_element
returns-else-is_named c = (
  rw (c.in-Start.is, sym c.is_named.ensures ∙ c.if-is_named.false),
  rw c.in-Start.is at c.requires,
)

pub returns-in-Shut : goal.returns-in-Shut
unfolding perhaps_element
returns-in-Shut c = (rw c.in-Shut.is, rw c.in-Shut.is at c.requires)

pub returns-in-Not : goal.returns-in-Not
unfolding perhaps_element
returns-in-Not c = (rw c.in-Not.is, tt)
