use mathlib.Core.Path.{sym, ◌∙◌}
use Rattle.contents.specs.rule.Step.{refer_at}
use Rattle.contents.proofs.step_refer.Goals as goal

pub returns-in-Some : goal.returns-in-Some
unfolding refer_at
returns-in-Some c = rw (sym c.reference.ensures ∙ c.in-Some.is) c.go_on.ensures

pub returns-in-None : goal.returns-in-None
unfolding refer_at
returns-in-None c = rw (sym c.reference.ensures ∙ c.in-None.is) c.broken.ensures
