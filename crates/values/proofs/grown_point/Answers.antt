use mathlib.Core.Path.{◌∙◌}
use Rattle.values.proofs.grown_point.Goals as goal

pub returns-then-b : goal.returns-then-b
returns-then-b c = c.point_codes.ensures ∙ rw (c.if-b.true, c.point_code-own.ensures)

pub returns : goal.returns
returns c = c.point_code-own.ensures ∙ rw c.if-b.false
