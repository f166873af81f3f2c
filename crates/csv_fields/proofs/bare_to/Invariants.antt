-- `csv_fields::bare_to` meets its contract. The invariant: the bytes passed are none of the four.
use Rattle.csv_fields.specs.Page.{Bared}
use Rattle.csv_fields.proofs.bare_to.Given as goal

abbrev pub invariant-loop-i : goal.invariant-loop-i
invariant-loop-i l = Bared l.d l.at l.i
