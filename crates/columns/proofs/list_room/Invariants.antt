-- `columns::list_room` meets its contract. The invariant: the numbers passed stand in the list.
-- Assumes nothing.
use mathlib.Core.Path.{◌≡◌}
use Prim.Native.Nat.{ℕ}
use lib.Dec.{eqb}
use lib.ListN.{length, get_or}
use Rattle.below.specs.rule.Below.{any_below}
use Rattle.columns.specs.Ones.{in_list}
use Rattle.columns.proofs.list_room.Given as goal

abbrev pub invariant-loop-k : goal.invariant-loop-k
invariant-loop-k l = (length l.list ≡ length l.initial.list)
    × ((x : ℕ) → in_list l.list l.k x ≡ any_below l.k (λ j. eqb (get_or l.room j 0) x))
