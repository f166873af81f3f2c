-- `looks::text_end` meets its contract. The invariant: up to here there is nothing but kept bytes, and the string is read on from here.
use Prim.Native.Nat.{◌-◌}
use lib.ListN.{length}
use Rattle.looks.specs.Look.{Shown}
use Rattle.looks.proofs.text_end.Given as goal

abbrev pub invariant-loop-from : goal.invariant-loop-from
invariant-loop-from l = Shown l.d l.from l.n

abbrev pub decreases-loop-from : goal.decreases-loop-from
decreases-loop-from l = length l.d - l.n
