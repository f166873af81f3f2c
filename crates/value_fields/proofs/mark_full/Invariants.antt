-- `value_fields::mark_full` meets its contract. The invariant: the rows so far are marked.
use Rattle.value_fields.specs.Legal.{Full}
use Rattle.value_fields.proofs.mark_full.Given as goal

abbrev pub invariant-loop-i : goal.invariant-loop-i
invariant-loop-i l = Full l.t l.h.rows l.i l.full
