use mathlib.Core.Path.{◌≡◌}
use Prim.Native.Nat.{◌+◌, ◌≤◌, ◌<◌}
use lib.ListN.{length}
use Rattle.contents.specs.rule.Content.{begun, signs_from, content_signs}
use Rattle.stretches.proofs.count_signs.Given as goal

abbrev pub invariant-loop-cursor : goal.invariant-loop-cursor
invariant-loop-cursor l = (l.n + length (content_signs l.latin l.d l.c) ≡ length (signs_from l.latin l.d (begun l.at))) × (l.n ≤ l.room)
    × (l.c.next ≤ length l.d) × (l.c.code < 2097152)

abbrev pub decreases-loop-cursor : goal.decreases-loop-cursor
decreases-loop-cursor l = length (content_signs l.latin l.d l.c)
