use mathlib.Core.Path.{sym, ◌∙◌}
use Rattle.contents.specs.rule.Step.{language_at}
use Rattle.contents.proofs.step_language.Goals as goal

pub returns-in-Read : goal.returns-in-Read
unfolding language_at
returns-in-Read c = rw (sym c.read_tag.ensures ∙ c.in-Read.is)
    (rw (← c.first_of-unknown.ensures))

pub returns-in-Fault : goal.returns-in-Fault
unfolding language_at
returns-in-Fault c = rw (sym c.read_tag.ensures ∙ c.in-Fault.is)
