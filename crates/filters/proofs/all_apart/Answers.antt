use mathlib.Core.Path.{sym, ◌∙◌}
use Rattle.below.specs.Below.{all_none, all_next}
use Rattle.filters.specs.Sums.{all_apart}
use Rattle.filters.proofs.all_apart.Goals as goal

pub loop-k-init : goal.loop-k-init
unfolding all_apart
loop-k-init c = sym (all_none _)

pub loop-k-preserved : goal.loop-k-preserved
unfolding all_apart
loop-k-preserved c = let l = c.loop-k in sym (all_next _ l.k ∙ rw (← l.invariant))
