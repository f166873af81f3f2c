-- `writes::write_row` meets its contract: each arm has what the value is there.
use mathlib.Core.Path.{◌≡◌}
use borrow.Author.Rules.{rules}
use mir.Syntax.{w64}
use mir.Val.{to_z, of_z}
use Rattle.writes.specs.rule.Write.{lent_value}
use Rattle.writes.proofs.Cases.{as_given}
use Rattle.writes.proofs.write_row.Goals as goal
use Rattle.writes.proofs.write_row.Goals.{In-Number}

-- the number is read back from its bits as it is
back : (c : In-Number) → to_z w64 (of_z w64 c.in-Number.z) ≡ c.in-Number.z
back c = search rules

pub returns-in-Missing : goal.returns-in-Missing
unfolding lent_value
returns-in-Missing c = as_given (rw c.in-Missing.is) c.write_missing.ensures

pub returns-in-Number : goal.returns-in-Number
unfolding lent_value
returns-in-Number c = as_given (rw (c.in-Number.is, back (goal.at.returns-in-Number c).In-Number))
    c.write_number.ensures

pub returns-in-Set : goal.returns-in-Set
unfolding lent_value
returns-in-Set c = as_given (rw c.in-Set.is) c.write_set.ensures

pub returns-in-Text : goal.returns-in-Text
unfolding lent_value
returns-in-Text c = as_given (rw c.in-Text.is) c.write_text.ensures

pub returns-in-Truth : goal.returns-in-Truth
unfolding lent_value
returns-in-Truth c = as_given (rw c.in-Truth.is) c.write_truth.ensures
