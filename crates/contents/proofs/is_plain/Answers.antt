use mathlib.Core.Path.{refl}
use Rattle.contents.specs.Pass.{plain_of}
use Rattle.contents.proofs.is_plain.Goals as goal

pub returns : goal.returns
unfolding plain_of
returns c = refl
