use mathlib.Core.Path.{sym, ◌∙◌}
use Rattle.prologs.specs.rule.Told.{gap_to}
use Rattle.prologs.proofs.gap_to.Goals as goal

pub returns-in-Past : goal.returns-in-Past
unfolding gap_to
returns-in-Past c = rw (sym c.gap.ensures ∙ c.in-Past.is)

pub returns-in-Broken : goal.returns-in-Broken
unfolding gap_to
returns-in-Broken c = rw (sym c.gap.ensures ∙ c.in-Broken.is)
