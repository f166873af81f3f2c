-- `value_fields::decimals` meets its contract.
use Rattle.widths.specs.rule.Width.{decimals_of}
use Rattle.value_fields.proofs.decimals.Goals as goal

pub returns-in-Single : goal.returns-in-Single
unfolding decimals_of
returns-in-Single c = rw c.in-Single.is

pub returns-in-Multiple : goal.returns-in-Multiple
unfolding decimals_of
returns-in-Multiple c = rw c.in-Multiple.is

pub returns-in-Quantity : goal.returns-in-Quantity
unfolding decimals_of
returns-in-Quantity c = rw c.in-Quantity.is

pub returns-in-Character : goal.returns-in-Character
unfolding decimals_of
returns-in-Character c = rw c.in-Character.is

pub returns-in-Logical : goal.returns-in-Logical
unfolding decimals_of
returns-in-Logical c = rw c.in-Logical.is
