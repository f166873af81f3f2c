use mathlib.Core.Path.{sym, ◌∙◌}
use Rattle.prefaces.specs.Code.{cleared_of}
use Rattle.prefaces.proofs.pass_tail.Goals as goal

pub returns-in-Clean : goal.returns-in-Clean
unfolding cleared_of
returns-in-Clean c = (rw (sym c.read_tail.ensures ∙ c.in-Clean.is), c.requires)

pub returns-in-Foul : goal.returns-in-Foul
unfolding cleared_of
returns-in-Foul c = (rw (sym c.read_tail.ensures ∙ c.in-Foul.is), tt)
