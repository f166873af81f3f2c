-- `field_judges::text_to` meets its contract. The invariant: the bytes passed are a text's.
use Rattle.field_judges.specs.Judged.{TextTo}
use Rattle.field_judges.proofs.text_to.Given as goal

abbrev pub invariant-loop-i : goal.invariant-loop-i
invariant-loop-i l = TextTo l.d l.at l.i
