use mathlib.Core.Path.{sym, ◌∙◌}
use Rattle.angles.specs.rule.Angle.{bang_of}
use Rattle.angles.proofs.read_bang.Goals as goal

pub returns-then-is_there : goal.returns-then-is_there
unfolding bang_of
returns-then-is_there c = rw (sym c.is_there.ensures ∙ c.if-is_there.true)

pub returns : goal.returns
unfolding bang_of
returns c = rw (sym c.is_there.ensures ∙ c.if-is_there.false)
