-- `matrix::column_more` meets its contract. The invariant: the summary so far, extended by what is left of the column, is the whole's.
-- Assumes nothing.
use mathlib.Core.Path.{◌≡◌}
use Prim.Native.Nat.{◌+◌, ◌-◌, ◌≤◌}
use Rattle.summary.specs.rule.Summary.{extended_by}
use Rattle.matrix.specs.Column.{column_in, there_from, column_from}
use Rattle.matrix.proofs.column_more.Given as goal

abbrev pub invariant-loop-k : goal.invariant-loop-k
invariant-loop-k l = (l.sum.count + (l.records - l.k) ≤ 18446744073709551615)
    × there_from l.s l.step l.flags l.values l.records l.k
    × (extended_by l.sum (column_from l.s l.step l.flags l.values l.records l.k)
    ≡ extended_by l.initial.sum (column_in l.s l.step l.flags l.values l.records))
