-- `looks::eight_on` meets its contract. The invariant: if a text goes on at all bytes so far, it goes on at each of them.
use mathlib.Core.Path.{◌≡◌}
use mathlib.Core.Bool.{true}
use Prim.Native.Nat.{◌+◌}
use Rattle.looks.specs.Each.{Each, On}
use Rattle.looks.proofs.eight_on.Given as goal

abbrev pub invariant-loop-k : goal.invariant-loop-k
invariant-loop-k l = l.on ≡ true → Each (On l.d) l.i (l.i + l.k)
