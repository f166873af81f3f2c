-- `value_fields::kept_bytes` meets its contract. The invariant: the first k bytes end where the whole does.
use Rattle.value_fields.specs.Ends.{EndsAt}
use Rattle.value_fields.proofs.kept_bytes.Given as goal

abbrev pub invariant-loop-k : goal.invariant-loop-k
invariant-loop-k l = EndsAt l.s l.k
