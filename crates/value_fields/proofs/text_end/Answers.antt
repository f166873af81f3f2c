-- `value_fields::text_end` meets its contract.
use borrow.Author.Tests.{eq-eqb, ne_eqb}
use Rattle.value_fields.proofs.text_end.Goals as goal

pub returns-then-f-eq0 : goal.returns-then-f-eq0
returns-then-f-eq0 c = rw (eq-eqb _ _ c.if-f-eq0.true)

pub returns-else-f-eq0 : goal.returns-else-f-eq0
returns-else-f-eq0 c = rw (ne_eqb _ _ c.if-f-eq0.false)
