use mathlib.Core.Path.{◌≡◌}
use Prim.Native.Nat.{◌-◌, ◌≤◌}
use lib.ListN.{length}
use mathlib.Core.Bool.{Bool}
use Rattle.contents.specs.rule.Content.{signs_from}
use Rattle.contents.proofs.next_heard.Given as goal

abbrev pub invariant-loop-going : goal.invariant-loop-going
invariant-loop-going l = ((bad : Bool) → signs_from bad l.d l.initial.g ≡ signs_from bad l.d l.g) × (l.g.next ≤ length l.d)

abbrev pub decreases-loop-going : goal.decreases-loop-going
decreases-loop-going l = length l.d - l.g.next
