-- `readings::many::bits_legal` meets its contract. The invariant: the row is legal in the records up to here, which the counter counts.
use Rattle.readings.specs.Many.{Passed}
use Rattle.readings.proofs.many.bits_legal.Given as goal

abbrev pub invariant-loop : goal.invariant-loop
invariant-loop l = Passed l.t l.rows l.row l.d l.batch l.at l.counter
