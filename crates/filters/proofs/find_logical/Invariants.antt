use Prim.Native.Nat.{◌-◌, ◌≤◌}
use Rattle.filters.specs.Code.{text_at}
use Rattle.filters.proofs.Asked.{FoundFrom}
use Rattle.filters.proofs.find_logical.Given as goal

abbrev pub invariant-loop-i : goal.invariant-loop-i
invariant-loop-i l = (l.i ≤ l.count) × FoundFrom l.latin l.standard l.d l.rows l.count (text_at l.p l.n) l.i

abbrev pub decreases-loop-i : goal.decreases-loop-i
decreases-loop-i l = l.count - l.i
