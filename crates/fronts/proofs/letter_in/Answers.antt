use Rattle.fronts.specs.Front.{letter_in}
use Rattle.fronts.proofs.letter_in.Goals as goal

pub returns-in-Byte : goal.returns-in-Byte
unfolding letter_in
returns-in-Byte c = rw c.in-Byte.is

pub returns-in-End : goal.returns-in-End
unfolding letter_in
returns-in-End c = rw c.in-End.is
