use Rattle.steps.specs.Step.{string_span}
use Rattle.steps.proofs.string_span.Goals as goal

pub returns : goal.returns
unfolding string_span
returns c = rw (c.phrase_in.ensures, c.string_on-p.ensures)
