-- `pieces::plain_most` meets its contract. The invariant: no byte before i is below 32.
use Prim.Native.Nat.{◌-◌, ◌≤◌}
use Rattle.lows.specs.Lows.{Clear}
use Rattle.pieces.proofs.plain_most.Given as goal

abbrev pub invariant-loop-i : goal.invariant-loop-i
invariant-loop-i l = (l.i ≤ l.n) × Clear l.d l.from l.i

abbrev pub decreases-loop-i : goal.decreases-loop-i
decreases-loop-i l = l.n - l.i
