-- `readings::set_answer` meets its contract: an arm each.
use Rattle.readings.specs.Answer.{set_said}
use Rattle.readings.proofs.set_answer.Goals as goal

pub returns-in-Missing : goal.returns-in-Missing
unfolding set_said
returns-in-Missing c = rw c.in-Missing.is

pub returns-in-Count : goal.returns-in-Count
unfolding set_said
returns-in-Count c = rw c.in-Count.is

pub returns-in-Illegal : goal.returns-in-Illegal
unfolding set_said
returns-in-Illegal c = rw c.in-Illegal.is

pub returns-in-Short : goal.returns-in-Short
unfolding set_said
returns-in-Short c = rw c.in-Short.is
