-- `columns::reach_of` meets its contract, case by case.
-- Assumes nothing.
use Rattle.columns.specs.Reach.{reach_by}
use Rattle.columns.proofs.reach_of.Goals as goal

pub returns-in-Single : goal.returns-in-Single
unfolding reach_by
returns-in-Single c = rw c.in-Single.is

pub returns-in-Bits : goal.returns-in-Bits
unfolding reach_by
returns-in-Bits c = rw (c.bits_reach.ensures, c.in-Multiple.is, c.in-Bits.is)

pub returns-in-Fields : goal.returns-in-Fields
unfolding reach_by
returns-in-Fields c = rw (c.digits_reach.ensures, c.in-Multiple.is, c.in-Fields.is)

pub returns-in-Quantity : goal.returns-in-Quantity
unfolding reach_by
returns-in-Quantity c = rw c.in-Quantity.is

pub returns-in-Character : goal.returns-in-Character
unfolding reach_by
returns-in-Character c = rw c.in-Character.is

pub returns-in-Logical : goal.returns-in-Logical
unfolding reach_by
returns-in-Logical c = rw c.in-Logical.is
