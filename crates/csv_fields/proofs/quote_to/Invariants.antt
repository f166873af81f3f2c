-- `csv_fields::quote_to` meets its contract. The invariant: the bytes passed are no quotes.
use Rattle.csv_fields.specs.Page.{Quoted}
use Rattle.csv_fields.proofs.quote_to.Given as goal

abbrev pub invariant-loop-i : goal.invariant-loop-i
invariant-loop-i l = Quoted l.d l.at l.i
