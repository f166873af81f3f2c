use borrow.Author.Tests.{eq-eqb, ne_eqb}
use Rattle.contents.specs.rule.Content.{is_text}
use Rattle.contents.proofs.is_text.Goals as goal

pub returns-then-q-d : goal.returns-then-q-d
unfolding is_text
returns-then-q-d c = rw (← c.first_bad-q.ensures.0, ne_eqb _ _ c.if-q-d.true)

pub returns : goal.returns
unfolding is_text
returns c = rw (← c.first_bad-q.ensures.0, eq-eqb _ _ c.if-q-d.false) c.text_in.ensures
