use Rattle.steps.specs.Step.{value_span}
use Rattle.steps.proofs.value_span.Goals as goal

pub returns : goal.returns
unfolding value_span
returns c = rw c.value_run-end.ensures
