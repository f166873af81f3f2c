-- `sharing::rows_apart` meets its contract. The invariant: the stamps are those of the rows passed, and no two of these share a place.
use mathlib.Core.Path.{◌≡◌}
use mathlib.Core.Bool.{true}
use Rattle.below.specs.rule.Below.{all_below}
use Rattle.sharing.specs.rule.Sharing.{places_at}
use Rattle.sharing.specs.Pairs.{Stamped, apart_before}
use Rattle.sharing.proofs.rows_apart.Given as goal

abbrev pub invariant-loop-i : goal.invariant-loop-i
invariant-loop-i l = Stamped (places_at l.t l.rows) l.i l.stamps
    × (all_below l.i (apart_before (places_at l.t l.rows)) ≡ true)
