use Rattle.fronts.specs.Front.{opening_past}
use Rattle.fronts.proofs.past_opening.Goals as goal

pub returns : goal.returns
unfolding opening_past
returns c = rw (c.place_in.ensures, c.read_opening-t.ensures)
