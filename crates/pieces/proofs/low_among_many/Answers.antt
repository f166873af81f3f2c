use mathlib.Core.Path.{◌≡◌}
use native.Mathlib.Omega.{arith}
use borrow.Author.Tests.{ltb-false}
use Rattle.pieces.specs.Scan.{minima_none, minima_more, minima_clear, neither_left, neither_right}
use Rattle.pieces.proofs.low_among_many.Goals as goal

pub loop-k-init : goal.loop-k-init
loop-k-init c e = minima_none _ _ _

pub loop-k-preserved : goal.loop-k-preserved
loop-k-preserved c e =
    let l = c.loop-k in
    minima_more _ _ _ _ _ (l.invariant (neither_left l.low _ e)) c.least_of_many.ensures
    (ltb-false _ _ (neither_right l.low _ e))

pub returns : goal.returns
returns c = let q : c.loop-k.k ≡ 16 = omega arith in λ e. minima_clear _ _ 16 (rw q at (c.loop-k.invariant e)) c.requires
