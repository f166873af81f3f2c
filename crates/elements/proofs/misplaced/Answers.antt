use mathlib.Core.Path.{sym, ◌∙◌}
use Rattle.elements.proofs.misplaced.Goals as goal

pub returns-in-Read : goal.returns-in-Read
returns-in-Read c = rw (sym c.read_bare.ensures ∙ c.in-Read.is)

pub returns-in-Fault : goal.returns-in-Fault
returns-in-Fault c = rw (sym c.read_bare.ensures ∙ c.in-Fault.is)
