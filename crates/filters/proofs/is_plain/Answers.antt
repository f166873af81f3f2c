use mathlib.Core.Path.{refl}
use Rattle.filters.specs.Code.{plain_of}
use Rattle.filters.proofs.is_plain.Goals as goal

pub returns : goal.returns
unfolding plain_of
returns c = refl
