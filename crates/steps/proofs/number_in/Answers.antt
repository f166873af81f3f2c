use Rattle.steps.specs.Step.{number_in}
use Rattle.steps.proofs.number_in.Goals as goal

pub returns-in-Ok : goal.returns-in-Ok
unfolding number_in
returns-in-Ok c = rw c.in-Ok.is

pub returns-in-Err : goal.returns-in-Err
unfolding number_in
returns-in-Err c = rw c.in-Err.is
