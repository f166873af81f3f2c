-- `record_values::counted_fits` meets its contract. The invariant: the members of the rows passed, and what is left, are the room.
use mathlib.Core.Path.{◌≡◌}
use Prim.Native.Nat.{◌+◌}
use lib.ListN.{length}
use Rattle.record_values.specs.rule.Record.{row_reading, members_below}
use Rattle.record_values.proofs.counted_fits.Given as goal

abbrev pub invariant-loop-i : goal.invariant-loop-i
invariant-loop-i l = length (members_below (row_reading l.t l.rows l.bytes) l.i) + l.left ≡ l.room
