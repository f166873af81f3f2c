use mathlib.Core.Path.{sym, ◌∙◌}
use Rattle.pairs.specs.rule.Stand.{stand_of}
use Rattle.pairs.proofs.find_stand.Goals as goal

pub returns-in-Past : goal.returns-in-Past
unfolding stand_of
returns-in-Past c = rw (sym c.gap.ensures ∙ c.in-Past.is) c.stand_at.ensures

pub returns-in-Broken : goal.returns-in-Broken
unfolding stand_of
returns-in-Broken c = rw (sym c.gap.ensures ∙ c.in-Broken.is)
