use mathlib.Core.Path.{refl}
use Rattle.measures.specs.Width.{widened}
use Rattle.measures.proofs.with_width.Goals as goal

pub returns : goal.returns
unfolding widened
returns c = refl
