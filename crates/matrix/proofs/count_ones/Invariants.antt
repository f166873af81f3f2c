-- `matrix::count_ones` meets its contract. The invariant: of each column what is counted so far, extended by what is left, is the whole's.
-- Assumes nothing.
use Prim.Native.Nat.{◌≤◌}
use Rattle.matrix.specs.Counts.{HeldFrom}
use Rattle.matrix.proofs.count_ones.Given as goal

abbrev pub invariant-loop-k : goal.invariant-loop-k
invariant-loop-k l = (l.n ≤ l.k) × HeldFrom l.s l.step l.flags l.values l.records l.k l.n l.ones
