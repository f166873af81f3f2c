-- `normal::settle_rows` meets its contract. The invariant: the rows passed were written back.
use mathlib.Core.Path.{◌≡◌}
use lib.ListN.{length}
use Rattle.normal.specs.rule.Normal.{settled_row}
use Rattle.normal.proofs.settle_rows.Given as goal

abbrev pub invariant-loop-i : goal.invariant-loop-i
invariant-loop-i l = (length l.list ≡ length l.initial.list)
    × (length l.bytes ≡ length l.initial.bytes)
    × (l.bytes ≡ settled_row l.t l.rows l.i l.initial.bytes)
