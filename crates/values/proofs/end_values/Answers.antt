use Rattle.values.specs.Line.{end_of}
use Rattle.values.proofs.end_values.Goals as goal

pub returns-in-Ok : goal.returns-in-Ok
unfolding end_of
returns-in-Ok c =
    rw c.in-Ok.is

pub returns-in-Err : goal.returns-in-Err
unfolding end_of
returns-in-Err c =
    rw c.in-Err.is
