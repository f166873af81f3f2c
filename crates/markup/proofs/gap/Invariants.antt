use mathlib.Core.Path.{◌≡◌}
use Prim.Native.Nat.{◌-◌, ◌≤◌}
use lib.ListN.{length}
use Rattle.markup.specs.rule.Gap.{gap_of}
use Rattle.markup.proofs.gap.Given as goal

abbrev pub invariant-loop-bad : goal.invariant-loop-bad
invariant-loop-bad l = (gap_of l.bad l.d l.at ≡ gap_of l.bad l.d l.n) × (l.n ≤ length l.d)

abbrev pub decreases-loop-bad : goal.decreases-loop-bad
decreases-loop-bad l = length l.d - l.n
