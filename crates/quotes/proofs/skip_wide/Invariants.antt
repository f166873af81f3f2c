-- `quotes::skip_wide` meets its contract. The invariant: no byte before i is a mark.
use Prim.Native.Nat.{◌-◌}
use Rattle.quotes.specs.Quotes.{is_mark, Unmarked}
use Rattle.quotes.proofs.skip_wide.Given as goal

abbrev pub invariant-loop-i : goal.invariant-loop-i
invariant-loop-i g l = Unmarked (is_mark l.x l.y l.z) l.s l.from l.i

abbrev pub decreases-loop-i : goal.decreases-loop-i
decreases-loop-i g l = l.n - l.i
