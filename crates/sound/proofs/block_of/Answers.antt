use Rattle.sound.specs.Block.{standing_strided}
use Rattle.sound.proofs.block_of.Goals as goal

pub block_of-requires : goal.block_of-requires
block_of-requires c = (rw c.base.ensures (standing_strided c.requires.0), c.requires.1)

pub returns : goal.returns
returns c = rw c.base.ensures at c.block_of.ensures
