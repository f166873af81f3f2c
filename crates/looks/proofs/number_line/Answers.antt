use native.Mathlib.Omega.{arith}
use Rattle.looks.proofs.Words.{number_lined}
use Rattle.looks.proofs.number_line.Goals as goal

pub returns : goal.returns
returns c h =
    number_lined (c.stands_to-a.ensures (omega (arith, c.if-a-eq0.false))) c.requires
    (c.stands_to-b.ensures (omega (arith, c.if-b-eq0.false))) c.figures_at-q.ensures c.if-q-b.false
    (c.line_end.ensures h)
