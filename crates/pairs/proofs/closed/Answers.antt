use mathlib.Core.Path.{sym, ◌∙◌}
use Rattle.pairs.specs.rule.Pair.{closed_of}
use Rattle.pairs.proofs.closed.Goals as goal

pub returns-in-Past : goal.returns-in-Past
unfolding closed_of
returns-in-Past c = rw (sym c.read_shut.ensures ∙ c.in-Past.is)

pub returns-in-Broken : goal.returns-in-Broken
unfolding closed_of
returns-in-Broken c = rw (sym c.read_shut.ensures ∙ c.in-Broken.is)
