use Rattle.steps.specs.Step.{keyword_past}
use Rattle.steps.proofs.past_keyword.Goals as goal

pub returns : goal.returns
unfolding keyword_past
returns c = rw (c.past_word.ensures, c.past_gap-g.ensures)
