-- `corrections::kind_number` meets its contract, case by case.
use borrow.Author.Rules.{rules}
use Rattle.corrections.specs.Truth.{kind_number}
use Rattle.corrections.proofs.kind_number.Goals as goal

pub returns-in-Single : goal.returns-in-Single
unfolding kind_number
returns-in-Single c = search rules

pub returns-in-Multiple : goal.returns-in-Multiple
unfolding kind_number
returns-in-Multiple c = search rules

pub returns-in-Quantity : goal.returns-in-Quantity
unfolding kind_number
returns-in-Quantity c = search rules

pub returns-in-Character : goal.returns-in-Character
unfolding kind_number
returns-in-Character c = search rules

pub returns-in-Logical : goal.returns-in-Logical
unfolding kind_number
returns-in-Logical c = search rules
