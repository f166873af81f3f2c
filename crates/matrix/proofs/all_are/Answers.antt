use mathlib.Core.Path.{sym}
use Rattle.matrix.specs.Noughts.{are_none, are_more}
use Rattle.matrix.proofs.all_are.Goals as goal

pub loop-k-init : goal.loop-k-init
loop-k-init c = sym (are_none _ _ _)

pub loop-k-preserved : goal.loop-k-preserved
loop-k-preserved c = are_more _ _ _ _ _ c.loop-k.invariant
