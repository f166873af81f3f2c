-- `looks::value_to` meets its contract. The invariant: each byte so far is one of a value.
use Prim.Native.Nat.{◌≤◌, max}
use lib.ListN.{length}
use Rattle.looks.specs.Each.{Each, ValueAt}
use Rattle.looks.proofs.value_to.Given as goal

abbrev pub invariant-loop-i : goal.invariant-loop-i
invariant-loop-i l = Each (ValueAt l.d) l.from l.i × (l.i ≤ max l.from (length l.d))
