use mathlib.Core.Path.{sym, ◌∙◌}
use native.Mathlib.Omega.{arith}
use Rattle.lows.specs.Lows.{clear_more}
use Rattle.lows.proofs.plain_far.Goals as goal

pub loop-i-preserved : goal.loop-i-preserved
loop-i-preserved c = (
  omega arith,
  clear_more _ _ _ 64 c.loop-i.invariant.1
      (sym c.low_among.ensures ∙ c.if-low_among.false) (omega arith),
)
