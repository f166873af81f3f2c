use mathlib.Core.Path.{sym}
use Rattle.lows.specs.Lows.{among_none, among_more}
use Rattle.lows.proofs.low_among.Goals as goal

pub loop-k-init : goal.loop-k-init
loop-k-init g c = sym (among_none _ _)

pub loop-k-preserved : goal.loop-k-preserved
loop-k-preserved g c = among_more _ _ _ _ c.loop-k.invariant
