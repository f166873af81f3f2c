-- `columns::mark_range` meets its contract. The invariant: what is passed of the stretch is marked, and no other.
use mathlib.Core.Path.{◌≡◌}
use Prim.Native.Nat.{◌≤◌}
use lib.ListN.{length}
use Rattle.columns.specs.Stretch.{Run}
use Rattle.columns.proofs.mark_range.Given as goal

abbrev pub invariant-loop-c : goal.invariant-loop-c
invariant-loop-c l = (l.initial.c ≤ l.c)
    × (length l.marks ≡ length l.initial.marks)
    × Run l.initial.c l.c l.marks
