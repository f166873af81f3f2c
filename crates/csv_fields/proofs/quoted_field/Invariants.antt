-- `csv_fields::quoted_field` meets its contract. The invariant: what was read within the quotes.
use Prim.Native.Nat.{◌-◌}
use lib.ListN.{length}
use Rattle.csv_fields.specs.Page.{InsideTo}
use Rattle.csv_fields.proofs.quoted_field.Given as goal

abbrev pub invariant-loop-at : goal.invariant-loop-at
invariant-loop-at l = InsideTo l.d l.at l.i l.bare

abbrev pub decreases-loop-at : goal.decreases-loop-at
decreases-loop-at l = length l.d - l.i
