-- `corrections::number_of` meets its contract, case by case.
use borrow.Author.Rules.{rules}
use Rattle.writes.specs.rule.Public.{write_number}
use Rattle.corrections.proofs.number_of.Goals as goal

pub returns-in-Done : goal.returns-in-Done
unfolding write_number
returns-in-Done c = search rules

pub returns-in-NotWellFormed : goal.returns-in-NotWellFormed
unfolding write_number
returns-in-NotWellFormed c = search rules

pub returns-in-NoRow : goal.returns-in-NoRow
unfolding write_number
returns-in-NoRow c = search rules

pub returns-in-TooShort : goal.returns-in-TooShort
unfolding write_number
returns-in-TooShort c = search rules

pub returns-in-OtherType : goal.returns-in-OtherType
unfolding write_number
returns-in-OtherType c = search rules

pub returns-in-NotLegal : goal.returns-in-NotLegal
unfolding write_number
returns-in-NotLegal c = search rules

pub returns-in-TooMany : goal.returns-in-TooMany
unfolding write_number
returns-in-TooMany c = search rules
