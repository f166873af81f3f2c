-- `matrix::count_values` meets its contract. The invariant: those before j are counted, the others as they were.
-- Assumes nothing.
use Rattle.matrix.specs.Counts.{Partly}
use Rattle.matrix.proofs.count_values.Given as goal

abbrev pub invariant-loop-j : goal.invariant-loop-j
invariant-loop-j l = Partly l.s l.value l.initial.ones l.ones l.j
