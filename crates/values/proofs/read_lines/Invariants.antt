-- `values::read_lines` meets its contract. The invariant: there are lines, which stand in the room behind the first ones and have left
-- their marks, and what comes from here on, behind them, ends as all of them do.
use Prim.Native.Nat.{◌-◌}
use lib.ListN.{length}
use Rattle.values.proofs.Lists.{Ran}
use Rattle.values.proofs.read_lines.Given as goal

abbrev pub invariant-loop-a : goal.invariant-loop-a
invariant-loop-a l = Ran l.d l.quantity (length l.initial.lines) l.first l.stamp l.initial.lines l.initial.a l.initial.b l.lines l.marks l.a
    l.b l.last

abbrev pub decreases-loop-a : goal.decreases-loop-a
decreases-loop-a l = 4096 - l.last
