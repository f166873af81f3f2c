use mathlib.Core.Path.{sym, ◌∙◌}
use Rattle.contents.specs.rule.Step.{other_at}
use Rattle.contents.proofs.step_other.Goals as goal

pub returns-in-Read : goal.returns-in-Read
unfolding other_at
returns-in-Read c = rw (sym c.read_bare.ensures ∙ c.in-Read.is)

pub returns-in-Fault : goal.returns-in-Fault
unfolding other_at
returns-in-Fault c = rw (sym c.read_bare.ensures ∙ c.in-Fault.is)
