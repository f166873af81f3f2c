use Rattle.contents.specs.rule.Step.{step_kind}
use Rattle.contents.proofs.kind_of.Goals as goal

pub returns-then-mode-br : goal.returns-then-mode-br
unfolding step_kind
returns-then-mode-br c = rw (← c.is_named-br.ensures) (rw c.if-mode-br.true)

pub returns-then-mode-text : goal.returns-then-mode-text
unfolding step_kind
returns-then-mode-text c = rw (← c.is_named-br.ensures, ← c.is_named-text.ensures)
    (rw (c.if-mode-br.false, c.if-mode-text.true))

pub returns-else-mode-text : goal.returns-else-mode-text
unfolding step_kind
returns-else-mode-text c = rw (← c.is_named-br.ensures, ← c.is_named-text.ensures)
    (rw (c.if-mode-br.false, c.if-mode-text.false))
