-- `mends::copy_all` meets its contract. The invariant: j bytes are copied.
use Prim.Native.Nat.{◌-◌, ◌≤◌}
use Rattle.cuts.specs.Records.{part}
use Rattle.mends.specs.Mend.{Stored}
use Rattle.mends.proofs.copy_all.Given as goal

abbrev pub invariant-loop-j : goal.invariant-loop-j
invariant-loop-j l = (l.j ≤ l.n) × Stored l.initial.out l.out 0 (part l.d 0 l.j) l.j

abbrev pub decreases-loop-j : goal.decreases-loop-j
decreases-loop-j l = l.n - l.j
