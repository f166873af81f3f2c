use mathlib.Core.Path.{◌≡◌}
use Prim.Native.Nat.{◌-◌, ◌≤◌}
use lib.ListN.{length}
use Rattle.spans.specs.rule.Heard.{first_heard}
use Rattle.spans.proofs.marked_char.Given as goal

abbrev pub invariant-loop-m : goal.invariant-loop-m
invariant-loop-m l = (first_heard l.s l.at ≡ first_heard l.s l.n) × (l.n ≤ length l.s)

abbrev pub decreases-loop-m : goal.decreases-loop-m
decreases-loop-m l = length l.s - l.n
