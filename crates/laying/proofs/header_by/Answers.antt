use Rattle.laying.specs.Code.{header_by}
use Rattle.laying.proofs.header_by.Goals as goal

pub returns : goal.returns
unfolding header_by
returns c = rw c.base.ensures
