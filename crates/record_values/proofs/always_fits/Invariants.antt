-- `record_values::always_fits` meets its contract. The invariant: the members of the rows passed, and what is left, come to the room.
use mathlib.Core.List.{List}
use Prim.Native.Nat.{ℕ, ◌+◌, ◌≤◌}
use lib.ListN.{length}
use Rattle.record_values.specs.rule.Record.{row_reading, members_below}
use Rattle.record_values.proofs.always_fits.Given as goal

abbrev pub invariant-loop-i : goal.invariant-loop-i
invariant-loop-i l = (bytes : List ℕ) → length (members_below (row_reading l.t l.rows bytes) l.i) + l.left ≤ l.room
