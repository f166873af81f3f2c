-- `columns::shape_of` meets its contract, case by case.
-- Assumes nothing.
use Rattle.columns.specs.Reach.{shape_of}
use Rattle.columns.proofs.shape_of.Goals as goal

pub returns-in-Single : goal.returns-in-Single
unfolding shape_of
returns-in-Single c = rw c.in-Single.is

pub returns-in-Multiple : goal.returns-in-Multiple
unfolding shape_of
returns-in-Multiple c = rw c.in-Multiple.is

pub returns-in-Quantity : goal.returns-in-Quantity
unfolding shape_of
returns-in-Quantity c = rw c.in-Quantity.is

pub returns-in-Character : goal.returns-in-Character
unfolding shape_of
returns-in-Character c = rw c.in-Character.is

pub returns-in-Logical : goal.returns-in-Logical
unfolding shape_of
returns-in-Logical c = rw c.in-Logical.is
