use mathlib.Core.Path.{sym, ◌∙◌}
use Rattle.elements.proofs.shut_at.Goals as goal

pub returns-in-Past : goal.returns-in-Past
returns-in-Past c = rw (sym c.read_shut.ensures ∙ c.in-Past.is)

pub returns-in-Broken : goal.returns-in-Broken
returns-in-Broken c = rw (sym c.read_shut.ensures ∙ c.in-Broken.is)
