use native.Mathlib.Omega.{arith}
use Rattle.contents.proofs.Walking.{walks_none, walks_join}
use Rattle.contents.proofs.pass_marks.Goals as goal

pub loop-i-init : goal.loop-i-init
loop-i-init c = walks_none _ _ _ _ (omega arith)

pub pass_one-n-requires : goal.pass_one-n-requires
pass_one-n-requires c = c.loop-i.invariant.within

pub returns-then-n-i : goal.returns-then-n-i
returns-then-n-i c = c.loop-i.invariant

pub loop-i-smaller : goal.loop-i-smaller
loop-i-smaller c =
    let x = c.pass_one-n.ensures in
    let a = x.on in
    let b = x.within in
    let n = c.if-n-i.false in
    omega arith

pub loop-i-preserved : goal.loop-i-preserved
loop-i-preserved c = walks_join _ _ _ _ c.loop-i.invariant c.pass_one-n.ensures
