use Rattle.steps.specs.Step.{statement_found}
use Rattle.pages.proofs.look_end.Goals as goal

pub returns : goal.returns
unfolding statement_found
returns c = rw (c.find_here.ensures, c.past_notes-g.ensures)
