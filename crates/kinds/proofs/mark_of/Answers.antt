use Rattle.kinds.specs.Code.{mark_of}
use Rattle.kinds.proofs.mark_of.Goals as goal

pub returns-then-xml : goal.returns-then-xml
unfolding mark_of
returns-then-xml c = rw c.if-xml.true

pub returns-else-xml : goal.returns-else-xml
unfolding mark_of
returns-else-xml c = rw c.if-xml.false
