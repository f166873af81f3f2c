-- `uses::uses_good` meets its contract. The invariant: use and filter are good in the rows looked at so far, and the serials and weights
-- among them are counted.
use mathlib.Core.Path.{◌≡◌}
use mathlib.Core.Bool.{true}
use Prim.Native.Nat.{◌≤◌}
use Rattle.below.specs.rule.Below.{all_below}
use Rattle.layout.specs.rule.Layout.{row_base, columns_at}
use Rattle.uses.specs.rule.Uses.{use_good, uses_of}
use Rattle.uses.proofs.uses_good.Given as goal

abbrev pub invariant-loop-i : goal.invariant-loop-i
invariant-loop-i l = (l.serials ≤ l.i) × (l.weights ≤ l.i) × (l.serials ≡ uses_of l.t l.i 1) × (l.weights ≡ uses_of l.t l.i 2)
    × (all_below l.i (λ k. use_good l.t k (columns_at l.t (row_base k))) ≡ true)
