use mathlib.Core.Path.{refl}
use Rattle.tags.specs.rule.Tag.{misses_of}
use Rattle.tags.proofs.misses.Goals as goal

pub returns : goal.returns
unfolding misses_of
returns c = refl
