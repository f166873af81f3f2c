use mathlib.Core.Path.{sym, ◌∙◌}
use Rattle.contents.specs.rule.Step.{bracket_at}
use Rattle.contents.proofs.step_bracket.Goals as goal

pub returns-then-is_there : goal.returns-then-is_there
unfolding bracket_at
returns-then-is_there c = rw (sym c.is_there.ensures ∙ c.if-is_there.true) c.broken.ensures

pub returns : goal.returns
unfolding bracket_at
returns c = rw (sym c.is_there.ensures ∙ c.if-is_there.false) c.go_on.ensures
