use mathlib.Core.Path.{◌≡◌}
use Prim.Native.Nat.{ℕ, ◌-◌, ◌≤◌}
use lib.ListN.{length}
use mathlib.Core.List.{List}
use Rattle.spans.specs.rule.Heard.{heard, All}
use Rattle.amounts.specs.rule.Said.{digits_in}
use Rattle.amounts.specs.Parts.{Left}
use Rattle.amounts.proofs.next_digit.Given as goal

abbrev pub invariant-loop-code : goal.invariant-loop-code
invariant-loop-code l = (l.n ≤ length l.s) × (l.at ≤ l.n) × ((cs : List ℕ) → heard l.s l.at ≡ All cs → Left l.s l.n (digits_in cs))

abbrev pub decreases-loop-code : goal.decreases-loop-code
decreases-loop-code l = length l.s - l.n
