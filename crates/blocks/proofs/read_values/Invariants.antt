use Prim.Native.Nat.{◌-◌}
use Rattle.blocks.proofs.Turns.{Ran}
use Rattle.blocks.proofs.read_values.Given as goal

abbrev pub invariant-loop-place : goal.invariant-loop-place
invariant-loop-place l = Ran l.bad l.d l.languages l.quantity l.first l.stamp l.initial.lines l.initial.marks l.initial.n l.initial.block
    l.initial.last l.lines l.marks l.n l.block l.last

abbrev pub decreases-loop-place : goal.decreases-loop-place
decreases-loop-place l = 4096 - l.last
