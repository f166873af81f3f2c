-- `lows::plain_short` meets its contract. The invariant: no byte from the first one to i is below 32.
use Prim.Native.Nat.{◌+◌, ◌-◌, ◌≤◌}
use Rattle.lows.specs.Lows.{Clear}
use Rattle.lows.proofs.plain_short.Given as goal

abbrev pub invariant-loop-i : goal.invariant-loop-i
invariant-loop-i l = (l.i ≤ l.last + 16) × Clear l.s l.from l.i

abbrev pub decreases-loop-i : goal.decreases-loop-i
decreases-loop-i l = l.last + 16 - l.i
