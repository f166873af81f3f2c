-- `faults::may_stand` meets its contract: the same test, at the point's place and elsewhere.
use mathlib.Core.Path.{sym, ◌∙◌}
use Rattle.faults.specs.rule.Fault.{may_stand}
use Rattle.faults.proofs.may_stand.Goals as goal

pub returns-then-at_point : goal.returns-then-at_point
unfolding may_stand
returns-then-at_point c left e = rw (sym c.at_point.ensures ∙ c.if-at_point.true)

pub returns : goal.returns
unfolding may_stand
returns c left e = rw (sym c.at_point.ensures ∙ c.if-at_point.false, e, c.fixed.ensures)
