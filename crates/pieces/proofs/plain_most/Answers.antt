use native.Mathlib.Omega.{arith}
use Rattle.lows.specs.Lows.{clear_none}
use Rattle.pieces.specs.Scan.{clear_join}
use Rattle.pieces.proofs.plain_most.Goals as goal

pub loop-i-init : goal.loop-i-init
loop-i-init c = (omega arith, clear_none _ _ (omega arith))

pub returns-then-low_among_many : goal.returns-then-low_among_many
returns-then-low_among_many c = c.loop-i.invariant.1

pub loop-i-preserved : goal.loop-i-preserved
loop-i-preserved c = (
  omega arith,
  clear_join _ _ _ _ c.loop-i.invariant.1 (c.low_among_many.ensures c.if-low_among_many.false),
)

pub returns : goal.returns
returns c = c.loop-i.invariant.1
