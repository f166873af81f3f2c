use Rattle.uses.specs.rule.Uses.{use_good}
use Rattle.uses.proofs.use_good.Goals as goal

pub returns : goal.returns
unfolding use_good
returns c = rw (c.filter_good.ensures, c.own_use.ensures)
