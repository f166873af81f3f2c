-- `field_values::gather` meets its contract. The invariant: the codes before a place stand in the list.
use mathlib.Core.Path.{◌≡◌}
use Prim.Native.Nat.{◌-◌}
use lib.ListN.{length}
use Rattle.field_values.specs.Steps.{Gathering}
use Rattle.field_values.proofs.gather.Given as goal

abbrev pub invariant-loop-count : goal.invariant-loop-count
invariant-loop-count l = Gathering l.f l.list l.count l.at × (length l.list ≡ 9999)

abbrev pub decreases-loop-count : goal.decreases-loop-count
decreases-loop-count l = 9999 - l.count
