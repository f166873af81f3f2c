-- `sets::bits::bit_of` meets its contract.
use borrow.Author.Tests.{eq-eqb, ne_eqb}
use Rattle.sets.proofs.bits.bit_of.Goals as goal

pub returns-then-b-eq49 : goal.returns-then-b-eq49
returns-then-b-eq49 c = rw (eq-eqb _ _ c.if-b-eq49.true)

pub returns-else-b-eq49 : goal.returns-else-b-eq49
returns-else-b-eq49 c = rw (ne_eqb _ _ c.if-b-eq49.false)
