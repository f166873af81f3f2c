use Rattle.filters.specs.Sums.{Apart}
use Rattle.filters.proofs.pass_apart.Given as goal

abbrev pub invariant-loop-i : goal.invariant-loop-i
invariant-loop-i l = Apart l.sums l.sum l.count l.from l.i
