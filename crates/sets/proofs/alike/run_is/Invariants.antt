-- `sets::alike::run_is` meets its contract. The invariant: the flag says whether the bytes passed are.
use mathlib.Core.Path.{◌≡◌}
use Prim.Native.Nat.{◌+◌}
use lib.ListN.{get_or}
use Rattle.below.specs.rule.Below.{all_below}
use Rattle.sets.specs.Alike.{one_of}
use Rattle.sets.proofs.alike.run_is.Given as goal

abbrev pub invariant-loop-k : goal.invariant-loop-k
invariant-loop-k l = l.good ≡ all_below l.k (λ j. one_of l.x l.y (get_or l.bytes (l.a + j) 0))
