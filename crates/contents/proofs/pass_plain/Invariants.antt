use Rattle.contents.specs.Pass.{Passes}
use Rattle.contents.proofs.pass_plain.Given as goal

abbrev pub invariant-loop-i : goal.invariant-loop-i
invariant-loop-i l = Passes l.d l.at l.i
