-- `laying::same_at` meets its contract. The invariant: what is left begins as the whole does.
use mathlib.Core.Path.{◌≡◌}
use Prim.Native.Nat.{◌+◌, ◌-◌, ◌≤◌}
use lib.ListN.{length, drop}
use Rattle.laying.specs.rule.Begins.{begins_table}
use Rattle.laying.proofs.same_at.Given as goal

abbrev pub invariant-loop-j : goal.invariant-loop-j
invariant-loop-j l = (l.j ≤ length l.part) × (begins_table l.part (drop l.at l.t) ≡ begins_table (drop l.j l.part) (drop (l.at + l.j) l.t))

abbrev pub decreases-loop-j : goal.decreases-loop-j
decreases-loop-j l = length l.part - l.j
