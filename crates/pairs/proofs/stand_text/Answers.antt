use mathlib.Core.Path.{sym, ◌∙◌}
use borrow.Author.Tests.{eq-eqb, ne_eqb}
use Rattle.pairs.specs.rule.Stand.{text_stand}
use Rattle.pairs.proofs.stand_text.Goals as goal

pub returns-in-Some : goal.returns-in-Some
unfolding text_stand
returns-in-Some c = rw (eq-eqb _ 38 c.if-d-n-eq38.true, sym c.reference.ensures ∙ c.in-Some.is)

pub returns-in-None : goal.returns-in-None
unfolding text_stand
returns-in-None c = rw (
  eq-eqb _ 38 c.if-d-n-eq38.true,
  sym c.reference.ensures ∙ c.in-None.is,
)

pub returns : goal.returns
unfolding text_stand
returns c = rw (ne_eqb _ 38 c.if-d-n-eq38.false)
