use mathlib.Core.Path.{sym, ◌∙◌}
use Rattle.pairs.specs.rule.Pair.{missed_of}
use Rattle.pairs.proofs.misplaced.Goals as goal

pub returns-in-Read : goal.returns-in-Read
unfolding missed_of
returns-in-Read c = rw (sym c.read_bare.ensures ∙ c.in-Read.is)

pub returns-in-Fault : goal.returns-in-Fault
unfolding missed_of
returns-in-Fault c = rw (sym c.read_bare.ensures ∙ c.in-Fault.is)
