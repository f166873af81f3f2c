use mathlib.Core.Path.{refl}
use Rattle.filters.specs.Sums.{sum_with}
use Rattle.filters.proofs.sum_with.Goals as goal

pub returns : goal.returns
unfolding sum_with
returns c = refl
