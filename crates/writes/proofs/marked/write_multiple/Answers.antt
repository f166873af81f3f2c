-- `writes::marked::write_multiple` meets its contract: spaces for a missing value, else the set.
use Rattle.writes.specs.rule.Write.{lent_value}
use Rattle.writes.proofs.Cases.{as_given}
use Rattle.writes.proofs.marked.write_multiple.Goals as goal

pub returns-then-blank : goal.returns-then-blank
unfolding lent_value
returns-then-blank c = as_given (rw c.if-blank.true) c.blank_set.ensures

pub returns : goal.returns
unfolding lent_value
returns c = as_given (rw c.if-blank.false) c.put_set.ensures
