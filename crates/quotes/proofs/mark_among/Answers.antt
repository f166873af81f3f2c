use mathlib.Core.Path.{sym}
use Rattle.quotes.specs.Quotes.{among_none, among_three}
use Rattle.quotes.proofs.mark_among.Goals as goal

pub loop-k-init : goal.loop-k-init
loop-k-init g c = sym (among_none _ _ _)

pub loop-k-preserved : goal.loop-k-preserved
loop-k-preserved g c = among_three _ _ _ _ _ _ c.loop-k.any_x c.loop-k.any_y c.loop-k.any_z c.loop-k.invariant
