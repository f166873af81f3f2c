use Rattle.std.proofs.Common.{rules}
use Rattle.variables.specs.Head.{join_head}
use Rattle.variables.proofs.join_head.Goals as goal

pub returns-in_err-x : goal.returns-in_err-x
unfolding join_head
returns-in_err-x c = search rules

pub returns-in-Not : goal.returns-in-Not
unfolding join_head
returns-in-Not c = search rules

pub returns-in_err-q-in-Is : goal.returns-in_err-q-in-Is
unfolding join_head
returns-in_err-q-in-Is c = search rules

pub returns-in_ok-q-in-Is : goal.returns-in_ok-q-in-Is
unfolding join_head
returns-in_ok-q-in-Is c = search rules
