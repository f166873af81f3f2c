use mathlib.Core.Path.{sym}
use Prim.Native.Nat.{◌<◌}
use native.Mathlib.Omega.{arith}
use Rattle.sharing.specs.Pairs.{shares_whole}
use Rattle.sharing.specs.Follow.{passed_none, passed_more}
use Rattle.sharing.proofs.rows_follow.Goals as goal

pub loop-i-preserved : goal.loop-i-preserved
loop-i-preserved c =
    let l = c.loop-i in
    let e = c.read-row.ensures in
    let m : l.last < c.read-row.result.start = omega (arith, c.if-row-last.false) in
    rw e (passed_more c.requires l.i l.last c.loop-i-test.true (rw e at m) l.invariant)

pub returns : goal.returns
returns c = λ y.
    let l = c.loop-i in
    let a = c.args in
    sym (shares_whole a.t.now a.rows l.i c.loop-i-test.false l.auto.i-end l.invariant.apart)

pub loop-i-init : goal.loop-i-init
loop-i-init c = passed_none _ _ _
