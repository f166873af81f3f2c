use mathlib.Core.Path.{sym, ◌∙◌}
use Rattle.below.specs.Below.{all_none, all_next}
use Rattle.utf.specs.Stride.{all_plain}
use Rattle.utf.proofs.all_plain.Goals as goal

pub loop-k-init : goal.loop-k-init
unfolding all_plain
loop-k-init c = sym (all_none _)

pub loop-k-preserved : goal.loop-k-preserved
unfolding all_plain
loop-k-preserved c =
    let l = c.loop-k in
    sym (all_next _ l.k ∙ rw (← l.invariant, ← c.is_plain-plain.ensures))
