use mathlib.Core.Path.{sym, ◌∙◌}
use Rattle.contents.specs.rule.Step.{pair_at}
use Rattle.contents.proofs.step_pair.Goals as goal

pub returns-in-Past : goal.returns-in-Past
unfolding pair_at
returns-in-Past c = rw (sym c.read_pair.ensures ∙ c.in-Past.is) c.go_on.ensures

pub returns-in-Cut : goal.returns-in-Cut
unfolding pair_at
returns-in-Cut c = rw (sym c.read_pair.ensures ∙ c.in-Cut.is)

pub returns-in-Fault : goal.returns-in-Fault
unfolding pair_at
returns-in-Fault c = rw (sym c.read_pair.ensures ∙ c.in-Fault.is)
