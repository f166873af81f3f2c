use Rattle.sound.specs.rule.Sound.{idents_differ}
use Rattle.sound.specs.Block.{rows_strided}
use Rattle.sound.proofs.idents_differ.Goals as goal

pub differ-requires : goal.differ-requires
differ-requires c = rows_strided c.requires

pub returns : goal.returns
unfolding idents_differ
returns c = c.differ.ensures
