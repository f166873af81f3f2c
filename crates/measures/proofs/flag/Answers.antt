use Rattle.measures.specs.Width.{flag_of}
use Rattle.measures.proofs.flag.Goals as goal

pub returns-then-b : goal.returns-then-b
unfolding flag_of
returns-then-b c = rw c.if-b.true

pub returns-else-b : goal.returns-else-b
unfolding flag_of
returns-else-b c = rw c.if-b.false
