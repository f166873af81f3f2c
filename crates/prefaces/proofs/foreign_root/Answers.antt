use mathlib.Core.Path.{sym, ◌∙◌}
use Rattle.prefaces.proofs.foreign_root.Goals as goal

pub returns-then-is_there : goal.returns-then-is_there
returns-then-is_there c = (rw (sym c.is_there.ensures ∙ c.if-is_there.true), tt)

pub returns : goal.returns
returns c = (rw (sym c.is_there.ensures ∙ c.if-is_there.false), tt)
