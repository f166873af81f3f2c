use mathlib.Core.Path.{◌≡◌}
use Prim.Native.Nat.{◌-◌, ◌≤◌}
use lib.ListN.{length}
use Rattle.spans.specs.rule.Heard.{heard}
use Rattle.spans.specs.Figures.{figures_after}
use Rattle.spans.proofs.figures_in.Given as goal

abbrev pub invariant-loop-code : goal.invariant-loop-code
invariant-loop-code l = (figures_after 0 0 (heard l.s 0) ≡ figures_after l.size l.count (heard l.s l.n)) × (l.n ≤ length l.s)
    × (l.count ≤ l.n) × (l.size ≤ 1000000000000000)

abbrev pub decreases-loop-code : goal.decreases-loop-code
decreases-loop-code l = length l.s - l.n
