use Rattle.steps.specs.Step.{place_in}
use Rattle.fronts.proofs.place_in.Goals as goal

pub returns-in-Ok : goal.returns-in-Ok
unfolding place_in
returns-in-Ok c = rw c.in-Ok.is

pub returns-in-Err : goal.returns-in-Err
unfolding place_in
returns-in-Err c = rw c.in-Err.is
