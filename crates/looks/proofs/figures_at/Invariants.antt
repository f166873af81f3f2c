-- `looks::figures_at` meets its contract. The invariant: the digits so far and those from here on say what the whole says.
use Prim.Native.Nat.{◌≤◌, max}
use lib.ListN.{length}
use Rattle.looks.specs.Figures.{Led}
use Rattle.looks.proofs.figures_at.Given as goal

abbrev pub invariant-loop-i : goal.invariant-loop-i
invariant-loop-i l = Led l.d l.at l.i l.v × (l.i ≤ max l.at (length l.d))
