-- `number_fields::digits_from` meets its contract.
use Rattle.number_fields.specs.Reads.{Digits}
use Rattle.number_fields.proofs.digits_from.Given as goal

abbrev pub invariant-loop-i : goal.invariant-loop-i
invariant-loop-i l = Digits l.d l.from l.m l.n l.i
