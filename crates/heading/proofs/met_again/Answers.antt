use Rattle.heading.specs.Heading.{again}
use Rattle.heading.proofs.met_again.Goals as goal

pub returns-in-Ok : goal.returns-in-Ok
unfolding again
returns-in-Ok c =
    rw c.in-Ok.is

pub returns-in-Err : goal.returns-in-Err
unfolding again
returns-in-Err c =
    rw c.in-Err.is
