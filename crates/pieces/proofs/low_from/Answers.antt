use mathlib.Core.Path.{◌≡◌}
use native.Mathlib.Omega.{arith}
use lib.ListN.{length}
use borrow.Author.Tests.{le-ltb, lt-ltb}
use Rattle.lows.specs.Lows.{clear_next}
use Rattle.pieces.proofs.low_from.Goals as goal

pub loop-i-init : goal.loop-i-init
loop-i-init c = c.plain_from-i.ensures

pub returns-then-d-i-lt32 : goal.returns-then-d-i-lt32
returns-then-d-i-lt32 c = record { clear = c.loop-i.invariant; low = λ h. lt-ltb _ _ c.if-d-i-lt32.true }

pub loop-i-preserved : goal.loop-i-preserved
loop-i-preserved c = clear_next _ _ _ c.loop-i.invariant (le-ltb _ _ c.if-d-i-lt32.false) c.loop-i-test.true

pub returns : goal.returns
returns c =
    let q : c.loop-i.i ≡ length c.args.d.now = omega (arith, c.loop-i.invariant.within) in
    record { clear = rw q at c.loop-i.invariant; low = λ h. absurd (omega arith) }
