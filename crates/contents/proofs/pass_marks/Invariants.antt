use Prim.Native.Nat.{◌-◌}
use lib.ListN.{length}
use Rattle.contents.specs.Pass.{Walks}
use Rattle.contents.proofs.pass_marks.Given as goal

abbrev pub invariant-loop-i : goal.invariant-loop-i
invariant-loop-i l = Walks l.bad l.d l.mode l.at l.i

abbrev pub decreases-loop-i : goal.decreases-loop-i
decreases-loop-i l = length l.d - l.i
