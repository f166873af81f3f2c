use Rattle.tags.proofs.Usuals.{Passing}
use Rattle.tags.proofs.value_end.Given as goal

abbrev pub invariant-loop-i : goal.invariant-loop-i
invariant-loop-i l = Passing l.d l.at l.i
