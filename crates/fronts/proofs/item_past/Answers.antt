use borrow.Author.Tests.{eq-eqb, ne_eqb}
use Rattle.fronts.specs.Front.{item_past}
use Rattle.fronts.proofs.item_past.Goals as goal

pub returns-then-i-eq4 : goal.returns-then-i-eq4
unfolding item_past
returns-then-i-eq4 c = rw (eq-eqb _ _ c.if-i-eq4.true) c.past_keyword.ensures

pub returns : goal.returns
unfolding item_past
returns c = rw (ne_eqb _ _ c.if-i-eq4.false, c.string_span-s.ensures)
