use mathlib.Core.Path.{◌≡◌}
use Prim.Native.Nat.{◌-◌, ◌≤◌}
use lib.ListN.{length}
use Rattle.contents.specs.rule.Content.{begun, text_from}
use Rattle.contents.proofs.text_in.Given as goal

abbrev pub invariant-loop-g : goal.invariant-loop-g
invariant-loop-g l = (text_from l.d (begun l.at) ≡ text_from l.d l.g) × (l.g.next ≤ length l.d)

abbrev pub decreases-loop-g : goal.decreases-loop-g
decreases-loop-g l = length l.d - l.g.next
