use Prim.Native.Nat.{◌-◌, ◌≤◌}
use Rattle.contents.specs.Pass.{Passes}
use Rattle.contents.proofs.pass_wide.Given as goal

abbrev pub invariant-loop-i : goal.invariant-loop-i
invariant-loop-i l = (16 ≤ l.n) × Passes l.d l.at l.i

abbrev pub decreases-loop-i : goal.decreases-loop-i
decreases-loop-i l = l.n - l.i
