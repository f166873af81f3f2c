use mathlib.Core.Path.{◌≡◌}
use Prim.Native.Nat.{ℕ, ◌-◌, ◌≤◌}
use lib.ListN.{length}
use mathlib.Core.List.{List}
use Rattle.spans.specs.rule.Heard.{heard, All}
use Rattle.amounts.proofs.Orders.{Zeros}
use Rattle.amounts.proofs.significant.Given as goal

abbrev pub invariant-loop-code : goal.invariant-loop-code
invariant-loop-code l = (l.n ≤ length l.s) × ((cs : List ℕ) → heard l.s 0 ≡ All cs → Zeros l.s cs l.n)

abbrev pub decreases-loop-code : goal.decreases-loop-code
decreases-loop-code l = length l.s - l.n
