use Rattle.fronts.specs.Front.{letter_at}
use Rattle.fronts.proofs.letter_at.Goals as goal

pub returns : goal.returns
unfolding letter_at
returns c = rw (c.letter_in.ensures, c.next_byte-s.ensures, c.past_gap-g.ensures)
