use Rattle.markup.specs.White.{Whites}
use Rattle.markup.proofs.pass_white.Given as goal

abbrev pub invariant-loop-i : goal.invariant-loop-i
invariant-loop-i l = Whites l.d l.at l.i
