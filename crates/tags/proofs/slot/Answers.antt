use mathlib.Core.Path.{sym, ◌∙◌}
use Rattle.tags.specs.rule.Tag.{slot_of}
use Rattle.tags.proofs.slot.Goals as goal

pub returns-then-is_named : goal.returns-then-is_named
unfolding slot_of
returns-then-is_named c = rw (sym c.is_named.ensures ∙ c.if-is_named.true)

pub returns-then-is_named-2 : goal.returns-then-is_named-2
unfolding slot_of
returns-then-is_named-2 c = rw (
  sym c.is_named.ensures ∙ c.if-is_named.false,
  sym c.is_named-2.ensures ∙ c.if-is_named-2.true,
)

pub returns-then-is_named-3 : goal.returns-then-is_named-3
unfolding slot_of
returns-then-is_named-3 c = rw (
  sym c.is_named.ensures ∙ c.if-is_named.false,
  sym c.is_named-2.ensures ∙ c.if-is_named-2.false,
  sym c.is_named-3.ensures ∙ c.if-is_named-3.true,
)

pub returns : goal.returns
unfolding slot_of
returns c = rw (
  sym c.is_named.ensures ∙ c.if-is_named.false,
  sym c.is_named-2.ensures ∙ c.if-is_named-2.false,
  sym c.is_named-3.ensures ∙ c.if-is_named-3.false,
)
