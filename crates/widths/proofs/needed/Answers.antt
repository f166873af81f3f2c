use mir.Facts.{to_z-of_z}
use mathlib.Core.Path.{◌∙◌}
use Rattle.widths.specs.rule.Width.{need, decimals_of}
use borrow.Author.Rules.{rules}
use Rattle.widths.proofs.needed.Goals as goal

pub quantity_width-requires : goal.quantity_width-requires
unfolding decimals_of
quantity_width-requires c = record {
  tens = search rules;
  decimals_bound = rw c.in-Quantity.is at c.requires.few_decimals.few;
}

pub returns-in-Single : goal.returns-in-Single
unfolding need
returns-in-Single c = c.digit_count.ensures ∙ rw (
  c.signed_of.ensures,
  to_z-of_z c.ranges.z,
  c.in-Single.is,
)

pub returns-in-Bits : goal.returns-in-Bits
unfolding need
returns-in-Bits c = rw (
  c.signed_of-in-Bits.ensures,
  to_z-of_z c.ranges.z,
  c.in-Multiple.is,
  c.in-Bits.is,
)

pub returns-in-Fields : goal.returns-in-Fields
unfolding need
returns-in-Fields c = c.digit_count-in-Fields.ensures ∙ rw (
  c.signed_of-in-Fields.ensures,
  to_z-of_z c.ranges.z,
  c.in-Multiple.is,
  c.in-Fields.is,
)

pub returns-in-Quantity : goal.returns-in-Quantity
unfolding need
returns-in-Quantity c = c.quantity_width.ensures ∙ rw (to_z-of_z c.ranges.z, c.in-Quantity.is)

pub returns-in-Character : goal.returns-in-Character
unfolding need
returns-in-Character c = rw c.in-Character.is

pub returns-in-Logical : goal.returns-in-Logical
unfolding need
returns-in-Logical c = rw c.in-Logical.is
