-- `columns::count_marked` meets its contract. The invariant: those counted and those left are all.
-- Assumes nothing.
use mathlib.Core.Path.{◌≡◌}
use mathlib.Core.Bool.{true}
use Prim.Native.Nat.{◌+◌, ◌-◌, ◌≤◌}
use lib.ListN.{length}
use Rattle.columns.specs.Marked.{marked_from, marked_entries}
use Rattle.columns.proofs.count_marked.Given as goal

abbrev pub invariant-loop-c : goal.invariant-loop-c
invariant-loop-c l = (l.k ≤ l.c)
    × (l.k + length (marked_from true l.marks l.marks l.c (length l.marks - l.c))
    ≡ length (marked_entries true l.marks l.marks))
