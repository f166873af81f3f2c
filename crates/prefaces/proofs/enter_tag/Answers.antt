use borrow.Author.Tests.{eq-eqb, ne_eqb}
use Rattle.reading.specs.rule.Least.{named, least, lower, judged}
use Rattle.prefaces.specs.Code.{entered_of}
use Rattle.prefaces.proofs.enter_tag.Goals as goal

pub returns-then-unknown-ne0 : goal.returns-then-unknown-ne0
unfolding entered_of judged named least lower
returns-then-unknown-ne0 c = rw (ne_eqb c.args.unknown 0 c.if-unknown-ne0.true)

pub returns-then-empty : goal.returns-then-empty
unfolding entered_of judged named least lower
returns-then-empty c = rw (eq-eqb c.args.unknown 0 c.if-unknown-ne0.false, c.if-empty.true)

pub returns : goal.returns
unfolding entered_of judged named least lower
returns c = rw (eq-eqb c.args.unknown 0 c.if-unknown-ne0.false, c.if-empty.false)
