use Rattle.steps.specs.Step.{found_in}
use Rattle.steps.proofs.found_in.Goals as goal

pub returns-in-Matched : goal.returns-in-Matched
unfolding found_in
returns-in-Matched c = rw c.in-Matched.is

pub returns-in-Not : goal.returns-in-Not
unfolding found_in
returns-in-Not c = rw c.in-Not.is
