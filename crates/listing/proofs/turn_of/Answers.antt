-- `listing::turn_of` meets its contract, case by case.
use native.Mathlib.Omega.{arith}
use Rattle.listing.specs.Places.{turn_of}
use Rattle.listing.proofs.turn_of.Goals as goal

pub returns-in-Part : goal.returns-in-Part
unfolding turn_of
returns-in-Part c = rw c.in-Part.is

pub returns-in-Whole : goal.returns-in-Whole
unfolding turn_of
returns-in-Whole c = rw c.in-Whole.is

pub returns-in-Last : goal.returns-in-Last
unfolding turn_of
returns-in-Last c = rw c.in-Last.is

pub overflow_add-place : goal.overflow_add-place
overflow_add-place c = omega (arith, c.requires)
