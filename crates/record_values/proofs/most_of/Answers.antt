-- `record_values::most_of` meets its contract: an arm each.
use Rattle.record_values.specs.Rows.{most_by}
use Rattle.record_values.proofs.most_of.Goals as goal

pub returns-in-Bits : goal.returns-in-Bits
unfolding most_by
returns-in-Bits c = rw (c.in-Multiple.is, c.in-Bits.is)

pub returns-in-Fields : goal.returns-in-Fields
unfolding most_by
returns-in-Fields c = rw (c.in-Multiple.is, c.in-Fields.is)

pub returns-in-Single : goal.returns-in-Single
unfolding most_by
returns-in-Single c = rw c.in-Single.is

pub returns-in-Quantity : goal.returns-in-Quantity
unfolding most_by
returns-in-Quantity c = rw c.in-Quantity.is

pub returns-in-Character : goal.returns-in-Character
unfolding most_by
returns-in-Character c = rw c.in-Character.is

pub returns-in-Logical : goal.returns-in-Logical
unfolding most_by
returns-in-Logical c = rw c.in-Logical.is
