use Rattle.prologs.specs.rule.Told.{miss_of}
use Rattle.prologs.proofs.miss.Goals as goal

pub returns : goal.returns
unfolding miss_of
returns c = rw c.due.ensures
