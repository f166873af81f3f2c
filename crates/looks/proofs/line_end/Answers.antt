use native.Mathlib.Omega.{arith}
use Rattle.looks.specs.Figures.{line_over}
use Rattle.looks.proofs.line_end.Goals as goal

pub returns-then-parts_at : goal.returns-then-parts_at
returns-then-parts_at c h = line_over (c.stands_to-e.ensures h) (c.parts_at.ensures c.if-parts_at.true)

pub returns : goal.returns
returns c h = absurd (omega arith)
