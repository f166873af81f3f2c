use mathlib.Core.Path.{◌≡◌}
use Prim.Native.Nat.{◌+◌, ◌≤◌}
use lib.ListN.{length}
use Rattle.utf.specs.rule.Cut.{first_bad}
use Rattle.utf.proofs.walk.Given as goal

abbrev pub invariant-loop-k : goal.invariant-loop-k
invariant-loop-k l = (first_bad l.latin l.d l.at ≡ first_bad l.latin l.d l.i) × (l.at + l._k ≤ l.i) × (l.i ≤ length l.d)
