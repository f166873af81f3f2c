-- `value_fields::kept_eights` meets its contract. The invariant: the first n bytes end where the whole does.
use Rattle.value_fields.specs.Ends.{EndsAt}
use Rattle.value_fields.proofs.kept_eights.Given as goal

abbrev pub invariant-loop-n : goal.invariant-loop-n
invariant-loop-n l = EndsAt l.s l.n

abbrev pub decreases-loop-n : goal.decreases-loop-n
decreases-loop-n l = l.n
