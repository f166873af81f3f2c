use mathlib.Core.Path.{◌≡◌}
use Prim.Native.Nat.{◌+◌}
use native.Mathlib.Omega.{arith}
use Rattle.below.specs.Below.{and_left, and_right}
use Rattle.looks.specs.Each.{each_none, each_more, on_tested}
use Rattle.looks.proofs.eight_on.Goals as goal

pub loop-k-init : goal.loop-k-init
loop-k-init c e =
    let z : c.args.i + 0 ≡ c.args.i = omega arith in
    rw z (each_none _ _)

pub loop-k-preserved : goal.loop-k-preserved
loop-k-preserved c e =
    let l = c.loop-k in
    let a = c.args in
    let q : a.i + l.k + 1 ≡ a.i + (l.k + 1) = omega arith in
    rw q at (each_more (l.invariant (and_left l.on _ e)) (on_tested a.d.now (a.i + l.k) (omega arith) (and_right l.on _ e)))
