use Rattle.filters.proofs.Asked.{SomeFrom, taken}
use Rattle.filters.proofs.use_taken.Given as goal

abbrev pub invariant-loop-i : goal.invariant-loop-i
invariant-loop-i l = SomeFrom l.rows l.count (taken l.usage) l.i
