use mathlib.Core.Path.{refl, ◌∙◌}
use Prim.Native.Nat.{◌+◌, ◌-◌}
use native.Mathlib.Nat.{add-zero, sub-zero}
use native.Mathlib.Omega.{arith}
use Rattle.runs.proofs.copy_in.Invariants.{on}
use Rattle.runs.proofs.copy_in.Goals as goal

pub loop-j-init : goal.loop-j-init
loop-j-init c = rw (add-zero, sub-zero)

pub loop-j-preserved : goal.loop-j-preserved
loop-j-preserved c =
    let l = c.loop-j in
    let a = c.args in
    on l.out a.src.now a.at a.k l.j (a.k - (l.j + 1)) (omega arith) refl (omega arith) ∙ l.invariant
