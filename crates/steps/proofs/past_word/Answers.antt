use Rattle.steps.specs.Step.{word_past}
use Rattle.steps.proofs.past_word.Goals as goal

pub returns : goal.returns
unfolding word_past
returns c = rw c.find_here-f.ensures
