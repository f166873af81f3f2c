-- `looks::text_near` meets its contract. The invariant: a text goes on at each byte so far.
use Rattle.looks.specs.Each.{Each, On}
use Rattle.looks.proofs.text_near.Given as goal

abbrev pub invariant-loop-j : goal.invariant-loop-j
invariant-loop-j l = Each (On l.d) l.i l.j
