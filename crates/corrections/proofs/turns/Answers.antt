-- `corrections::turns` meets its contract.
use borrow.Author.Tests.{eq-eqb, ne_eqb}
use Rattle.corrections.specs.Correction.{turns_of}
use Rattle.corrections.proofs.turns.Goals as goal

pub returns-then-answer-eq0 : goal.returns-then-answer-eq0
unfolding turns_of
returns-then-answer-eq0 c = rw (eq-eqb _ _ c.if-answer-eq0.true)

pub returns : goal.returns
unfolding turns_of
returns c = rw (ne_eqb _ _ c.if-answer-eq0.false)
