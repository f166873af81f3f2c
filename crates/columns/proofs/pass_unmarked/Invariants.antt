-- `columns::pass_unmarked` meets its contract. The invariant: no mark before i is set.
use Prim.Native.Nat.{◌-◌, ◌≤◌}
use Rattle.columns.specs.Stretch.{Unmarked}
use Rattle.columns.proofs.pass_unmarked.Given as goal

abbrev pub invariant-loop-i : goal.invariant-loop-i
invariant-loop-i l = (l.i ≤ l.n) × Unmarked l.marks l.from l.i

abbrev pub decreases-loop-i : goal.decreases-loop-i
decreases-loop-i l = l.n - l.i
