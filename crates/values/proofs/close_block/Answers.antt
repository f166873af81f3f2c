use Rattle.values.specs.Line.{listed_of}
use Rattle.values.specs.Block.{closed_by}
use Rattle.values.proofs.Lists.{listed_none}
use Rattle.values.proofs.close_block.Goals as goal

pub returns-in-Ok : goal.returns-in-Ok
unfolding closed_by
returns-in-Ok c =
    rw c.in-Ok.is (listed_none _ _ _)

pub returns-in-Err : goal.returns-in-Err
unfolding closed_by listed_of
returns-in-Err c =
    rw c.in-Err.is
