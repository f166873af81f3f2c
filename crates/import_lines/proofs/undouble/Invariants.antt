-- `import_lines::undouble` meets its contract. The invariant: so much of the field stands in the room.
use Prim.Native.Nat.{◌-◌}
use lib.ListN.{length}
use Rattle.import_lines.specs.Undoubled.{Undoubling}
use Rattle.import_lines.proofs.undouble.Given as goal

abbrev pub invariant-loop-i : goal.invariant-loop-i
invariant-loop-i l = Undoubling l.raw l.room l.n l.i

abbrev pub decreases-loop-i : goal.decreases-loop-i
decreases-loop-i l = length l.raw - l.i
