-- `field_values::is_done` meets its contract.
use Rattle.field_values.specs.Steps.{is_done}
use Rattle.field_values.proofs.is_done.Goals as goal

pub returns-in-Done : goal.returns-in-Done
unfolding is_done
returns-in-Done c = rw c.in-Done.is

pub returns-in-NotWellFormed : goal.returns-in-NotWellFormed
unfolding is_done
returns-in-NotWellFormed c = rw c.in-NotWellFormed.is

pub returns-in-NoRow : goal.returns-in-NoRow
unfolding is_done
returns-in-NoRow c = rw c.in-NoRow.is

pub returns-in-TooShort : goal.returns-in-TooShort
unfolding is_done
returns-in-TooShort c = rw c.in-TooShort.is

pub returns-in-OtherType : goal.returns-in-OtherType
unfolding is_done
returns-in-OtherType c = rw c.in-OtherType.is

pub returns-in-NotLegal : goal.returns-in-NotLegal
unfolding is_done
returns-in-NotLegal c = rw c.in-NotLegal.is

pub returns-in-TooMany : goal.returns-in-TooMany
unfolding is_done
returns-in-TooMany c = rw c.in-TooMany.is
