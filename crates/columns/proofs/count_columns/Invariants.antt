-- `columns::count_columns` meets its contract. The invariant: those counted and those left are all.
-- Assumes nothing.
use mathlib.Core.Path.{◌≡◌}
use Prim.Native.Nat.{◌+◌, ◌-◌, ◌*◌, ◌≤◌}
use lib.ListN.{length}
use Rattle.columns.specs.rule.Columns.{columns_from}
use Rattle.columns.proofs.count_columns.Given as goal

abbrev pub invariant-loop-i : goal.invariant-loop-i
invariant-loop-i l = (l.k ≤ 9999 * l.i)
    × (length l.allowed ≡ length l.initial.allowed)
    × (l.k + length (columns_from l.t l.h.rows l.i (l.h.rows - l.i)) ≡ length (columns_from l.t l.h.rows 0 l.h.rows))
