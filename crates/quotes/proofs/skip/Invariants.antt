-- `quotes::skip` meets its contract. The invariant: no byte before i is a mark.
use Rattle.quotes.specs.Quotes.{is_mark, Unmarked}
use Rattle.quotes.proofs.skip.Given as goal

abbrev pub invariant-loop-i : goal.invariant-loop-i
invariant-loop-i g l = Unmarked (is_mark l.x l.y l.z) l.s l.from l.i
