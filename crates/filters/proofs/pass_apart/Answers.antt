use mathlib.Core.Path.{◌≡◌}
use native.Mathlib.Omega.{arith}
use Rattle.filters.proofs.Passing.{apart_next}
use Rattle.filters.proofs.pass_apart.Goals as goal

pub loop-i-init : goal.loop-i-init
loop-i-init c = c.pass_wide-i.ensures

pub returns-then-sums-i : goal.returns-then-sums-i
returns-then-sums-i c = c.loop-i.invariant

pub loop-i-preserved : goal.loop-i-preserved
loop-i-preserved c = apart_next _ _ _ _ _ c.loop-i.invariant c.loop-i-test.true c.if-sums-i.false

pub returns : goal.returns
returns c =
    let n = c.loop-i.invariant.within in
    let e : c.loop-i.i ≡ c.args.count = omega arith in
    rw e at c.loop-i.invariant
