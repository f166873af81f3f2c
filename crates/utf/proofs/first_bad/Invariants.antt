use mathlib.Core.Path.{◌≡◌}
use Prim.Native.Nat.{◌-◌, ◌≤◌}
use lib.ListN.{length}
use Rattle.utf.specs.rule.Cut.{first_bad}
use Rattle.utf.proofs.first_bad.Given as goal

abbrev pub invariant-loop-i : goal.invariant-loop-i
invariant-loop-i l = (first_bad l.latin l.d l.from ≡ first_bad l.latin l.d l.i) × (l.i ≤ length l.d) × (l.n ≡ length l.d)

abbrev pub decreases-loop-i : goal.decreases-loop-i
decreases-loop-i l = l.n - l.i
