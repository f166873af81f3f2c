use mathlib.Core.Path.{sym, ◌∙◌}
use native.Mathlib.Omega.{arith}
use Rattle.lows.specs.Lows.{clear_more, clear_end}
use Rattle.lows.proofs.plain_to.Goals as goal

pub loop-i-preserved : goal.loop-i-preserved
loop-i-preserved c = (
  omega arith,
  omega arith,
  clear_more _ _ _ 16 c.loop-i.invariant.2
      (sym c.low_among.ensures ∙ c.if-low_among.false) (omega arith),
)

pub returns : goal.returns
returns c = clear_end _ _ _ _ 16 c.loop-i.invariant.2 (sym c.low_among-2.ensures ∙ c.if-low_among-2.false)
    (omega arith) (omega arith)
