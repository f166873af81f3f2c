use Prim.Native.Nat.{◌-◌, ◌≤◌}
use Rattle.filters.specs.Code.{text_at}
use Rattle.filters.proofs.Asked.{CountFrom}
use Rattle.filters.proofs.count_named.Given as goal

abbrev pub invariant-loop-i : goal.invariant-loop-i
invariant-loop-i l = (l.i ≤ l.count) × (l.found ≤ l.i)
    × CountFrom l.latin l.standard l.d l.rows l.count (text_at l.p l.n) l.found l.i

abbrev pub decreases-loop-i : goal.decreases-loop-i
decreases-loop-i l = l.count - l.i
