use mathlib.Core.Path.{◌≡◌}
use Prim.Native.Nat.{◌-◌, ◌≤◌}
use lib.ListN.{length}
use Rattle.spans.specs.rule.Heard.{heard}
use Rattle.spans.specs.rule.Says.{count_after}
use Rattle.spans.proofs.count_in.Given as goal

abbrev pub invariant-loop-code : goal.invariant-loop-code
invariant-loop-code l = (count_after l.class 0 (heard l.s 0) ≡ count_after l.class l.count (heard l.s l.n)) × (l.n ≤ length l.s)
    × (l.count ≤ l.n)

abbrev pub decreases-loop-code : goal.decreases-loop-code
decreases-loop-code l = length l.s - l.n
