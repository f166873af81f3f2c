-- `columns::put_ones` meets its contract. The invariant: the numbers passed are set.
-- Assumes nothing.
use mathlib.Core.Path.{◌≡◌}
use Prim.Native.Nat.{◌-◌}
use lib.ListN.{length}
use Rattle.columns.specs.Ones.{OnesMore}
use Rattle.columns.proofs.put_ones.Given as goal

abbrev pub invariant-loop-k : goal.invariant-loop-k
invariant-loop-k l = (length l.out ≡ length l.initial.out)
    × OnesMore l.flags l.values (l.past - 1) l.list l.k l.initial.out l.out
