use Rattle.steps.specs.Step.{notes_past}
use Rattle.steps.proofs.past_notes.Goals as goal

pub returns : goal.returns
unfolding notes_past
returns c = rw (c.place_in.ensures, c.notes_on-t.ensures)
