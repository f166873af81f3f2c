use mathlib.Core.Path.{◌≡◌, sym, ◌∙◌}
use Prim.Native.Nat.{◌+◌}
use native.Mathlib.Nat.{add-zero}
use native.Mathlib.Omega.{arith}
use Rattle.sink.specs.Stored.{store_on, store_done}
use Rattle.sink.proofs.store_left.Goals as goal

pub returns-then-s-j : goal.returns-then-s-j
returns-then-s-j c = sym (store_done _ _ _ _ c.if-s-j.true) ∙ c.loop-k.invariant.1

pub loop-k-preserved : goal.loop-k-preserved
loop-k-preserved c =
    let l = c.loop-k in
    let a = c.args in
    let e : a.i + (l.k + 1) ≡ a.i + l.k + 1 = omega arith in (
      omega arith,
      rw e (store_on l.out a.s.now a.at (a.i + l.k) (omega arith) ∙ l.invariant.1),
    )

pub returns : goal.returns
returns c =
    let l = c.loop-k in
    let a = c.args in
    sym (store_done l.out a.s.now a.at (a.i + l.k) (omega arith)) ∙ l.invariant.1

pub loop-k-init : goal.loop-k-init
loop-k-init c = (omega arith, rw add-zero)
