use native.Mathlib.Omega.{arith}
use Rattle.lows.specs.Lows.{clear_none}
use Rattle.pieces.specs.Scan.{clear_join}
use Rattle.pieces.proofs.plain_far.Goals as goal

pub loop-i-init : goal.loop-i-init
loop-i-init c = (omega arith, clear_none _ _ (omega arith))

pub returns-then-low_among_some : goal.returns-then-low_among_some
returns-then-low_among_some c = c.loop-i.invariant.1

-- where the first two times 64 have none, and elsewhere
pub loop-i-preserved-then-i-mark : goal.loop-i-preserved-then-i-mark
loop-i-preserved-then-i-mark c =
    let m = c.plain_most-i.ensures in (
      omega (arith, m.within),
      clear_join _ _ _ _ c.loop-i.invariant.1
          (clear_join _ _ _ _ (c.low_among_some.ensures c.if-low_among_some.false) m),
    )

pub loop-i-preserved : goal.loop-i-preserved
loop-i-preserved c = (
  omega arith,
  clear_join _ _ _ _ c.loop-i.invariant.1 (c.low_among_some.ensures c.if-low_among_some.false),
)

pub returns : goal.returns
returns c = c.loop-i.invariant.1

pub loop-i-smaller-then-i-mark : goal.loop-i-smaller-then-i-mark
loop-i-smaller-then-i-mark c = omega (arith, c.plain_most-i.ensures.on)
