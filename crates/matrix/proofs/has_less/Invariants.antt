-- `matrix::has_less` meets its contract. The invariant: what is left of the column has a value below 1 where the whole has one.
-- Assumes nothing.
use mathlib.Core.Path.{◌≡◌}
use Rattle.matrix.specs.Column.{column_in, there_from, column_from}
use Rattle.matrix.specs.Told.{any_less}
use Rattle.matrix.proofs.has_less.Given as goal

abbrev pub invariant-loop-k : goal.invariant-loop-k
invariant-loop-k l = there_from l.s l.step l.flags l.values l.records l.k
    × (any_less (column_from l.s l.step l.flags l.values l.records l.k) ≡ any_less (column_in l.s l.step l.flags l.values l.records))
