use native.Mathlib.Omega.{arith}
use Rattle.looks.proofs.Words.{phrase_lined}
use Rattle.looks.proofs.phrase_line.Goals as goal

pub returns : goal.returns
returns c h =
    phrase_lined (c.stands_to-a.ensures (omega (arith, c.if-a-eq0.false)))
    c.requires
    (c.quoted_end.ensures h)

pub returns-then-a-eq0 : goal.returns-then-a-eq0
returns-then-a-eq0 c h = absurd (omega arith)
