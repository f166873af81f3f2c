use mathlib.Core.Path.{◌≡◌}
use Prim.Native.Nat.{ℕ, ◌-◌, ◌≤◌}
use lib.ListN.{length}
use mathlib.Core.List.{List}
use Rattle.spans.specs.rule.Heard.{heard, All}
use Rattle.amounts.proofs.Hears.{Going}
use Rattle.amounts.proofs.read_digits.Given as goal

abbrev pub invariant-loop-code : goal.invariant-loop-code
invariant-loop-code l = (l.n ≤ length l.s) × (l.size ≤ 1000000000000000) × (l.count ≤ l.n)
    × ((cs : List ℕ) → heard l.s l.at ≡ All cs → Going l.s l.v cs l.size l.count l.n)

abbrev pub decreases-loop-code : goal.decreases-loop-code
decreases-loop-code l = length l.s - l.n
