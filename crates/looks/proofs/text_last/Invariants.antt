-- `looks::text_last` meets its contract. The invariant: a text goes on at each byte so far.
use Prim.Native.Nat.{◌≤◌, max}
use lib.ListN.{length}
use Rattle.looks.specs.Each.{Each, On}
use Rattle.looks.proofs.text_last.Given as goal

abbrev pub invariant-loop-i : goal.invariant-loop-i
invariant-loop-i l = Each (On l.d) l.from l.i × (l.i ≤ max l.from (length l.d))
