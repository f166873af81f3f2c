use mathlib.Core.Path.{sym, ◌∙◌}
use Rattle.contents.specs.rule.Step.{return_at}
use Rattle.contents.proofs.step_return.Goals as goal

pub returns-then-is_there : goal.returns-then-is_there
unfolding return_at
returns-then-is_there c = rw (sym c.is_there.ensures ∙ c.if-is_there.true) c.go_on.ensures

pub returns : goal.returns
unfolding return_at
returns c = rw (sym c.is_there.ensures ∙ c.if-is_there.false) c.go_on-2.ensures
