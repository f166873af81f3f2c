use mathlib.Core.Path.{◌≡◌}
use Prim.Native.Nat.{◌-◌, ◌≤◌}
use lib.ListN.{length}
use Rattle.contents.specs.rule.Content.{begun, content_from}
use Rattle.contents.proofs.read_content.Given as goal

abbrev pub invariant-loop-going : goal.invariant-loop-going
invariant-loop-going l = (content_from l.bad l.d l.mode l.w (begun l.at) ≡ content_from l.bad l.d l.mode l.w l.g) × (l.g.next ≤ length l.d)

abbrev pub decreases-loop-going : goal.decreases-loop-going
decreases-loop-going l = length l.d - l.g.next
