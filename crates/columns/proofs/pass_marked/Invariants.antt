-- `columns::pass_marked` meets its contract. The invariant: every mark before i is set.
-- Assumes nothing.
use Rattle.columns.specs.Ones.{Marked}
use Rattle.columns.proofs.pass_marked.Given as goal

abbrev pub invariant-loop-i : goal.invariant-loop-i
invariant-loop-i l = Marked l.marks l.from l.i
