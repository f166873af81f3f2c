use Rattle.heading.specs.Heading.{kept_of}
use Rattle.heading.proofs.kept_text.Goals as goal

pub returns-in-Ok : goal.returns-in-Ok
unfolding kept_of
returns-in-Ok c =
    rw c.in-Ok.is

pub returns-in-Err : goal.returns-in-Err
unfolding kept_of
returns-in-Err c =
    rw c.in-Err.is
