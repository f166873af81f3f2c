use Rattle.steps.specs.Step.{statement_past}
use Rattle.steps.proofs.past_statement.Goals as goal

pub returns : goal.returns
unfolding statement_past
returns c = rw (c.past_word.ensures, c.past_notes-g.ensures)
