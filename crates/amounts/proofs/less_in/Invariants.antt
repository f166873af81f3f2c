use mathlib.Core.Path.{◌≡◌}
use Prim.Native.Nat.{ℕ, ◌-◌, ◌≤◌}
use lib.ListN.{length}
use mathlib.Core.List.{List}
use Rattle.spans.specs.rule.Heard.{heard, All}
use Rattle.amounts.proofs.Orders.{Pairing}
use Rattle.amounts.proofs.less_in.Given as goal

abbrev pub invariant-loop-x : goal.invariant-loop-x
invariant-loop-x l = (l.i ≤ length l.a) × (l.j ≤ length l.b)
    × ((x y : List ℕ) → heard l.a 0 ≡ All x → heard l.b 0 ≡ All y → Pairing l.a l.b x y l.i l.j l.o)

abbrev pub decreases-loop-x : goal.decreases-loop-x
decreases-loop-x l = length l.a - l.i
