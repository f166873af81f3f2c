use mathlib.Core.Path.{sym, ◌∙◌}
use Rattle.prefaces.proofs.close_root.Goals as goal

pub returns-in-Past : goal.returns-in-Past
returns-in-Past c = (rw (sym c.read_shut.ensures ∙ c.in-Past.is), tt)

pub returns-in-Broken : goal.returns-in-Broken
returns-in-Broken c = (rw (sym c.read_shut.ensures ∙ c.in-Broken.is), tt)
