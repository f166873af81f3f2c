-- `record_values::read_rows` meets its contract. The invariant: the numbers and the members of the rows passed stand at the start of what
-- is lent, the rest of which is kept.
use mathlib.Core.Path.{◌≡◌}
use Prim.Native.Nat.{◌≤◌}
use lib.ListN.{length}
use Rattle.cells.specs.rule.Cell.{pasted}
use Rattle.record_values.specs.rule.Record.{row_reading, members_below, refused_below, cells_below}
use Rattle.record_values.proofs.read_rows.Given as goal

abbrev pub invariant-loop-i : goal.invariant-loop-i
invariant-loop-i l = (l.at ≡ length (members_below (row_reading l.t l.rows l.bytes) l.i))
    × (l.refused ≡ refused_below (row_reading l.t l.rows l.bytes) l.i)
    × (l.refused ≤ l.i)
    × (l.out ≡ pasted l.initial.out 0 (cells_below l.t l.rows l.bytes l.i))
    × (l.list ≡ pasted l.initial.list 0 (members_below (row_reading l.t l.rows l.bytes) l.i))
