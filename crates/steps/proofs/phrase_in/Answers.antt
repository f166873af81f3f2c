use Rattle.steps.specs.Step.{phrase_in}
use Rattle.steps.proofs.phrase_in.Goals as goal

pub returns-in-Ok : goal.returns-in-Ok
unfolding phrase_in
returns-in-Ok c = rw (c.quote_before-end.ensures, c.in-Ok.is)

pub returns-in-Err : goal.returns-in-Err
unfolding phrase_in
returns-in-Err c = rw c.in-Err.is
