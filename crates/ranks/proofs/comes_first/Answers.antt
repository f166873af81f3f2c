use mathlib.Core.Path.{refl}
use Rattle.ranks.specs.rule.Rank.{precedes}
use Rattle.ranks.proofs.comes_first.Goals as goal

pub returns : goal.returns
unfolding precedes
returns c = refl
