use Rattle.steps.specs.Step.{number_span}
use Rattle.steps.proofs.number_span.Goals as goal

pub returns : goal.returns
unfolding number_span
returns c = rw (c.number_in.ensures, c.number_on-x.ensures)
