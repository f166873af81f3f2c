use borrow.Author.Tests.{eq-eqb, ne_eqb}
use Rattle.elements.proofs.shared.Goals as goal

pub returns-then-found-eq0 : goal.returns-then-found-eq0
returns-then-found-eq0 c = rw (eq-eqb c.args.found.number 0 c.if-found-eq0.true)

pub returns : goal.returns
returns c = rw (ne_eqb c.args.found.number 0 c.if-found-eq0.false)
