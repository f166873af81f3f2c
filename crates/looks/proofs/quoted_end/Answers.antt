use native.Mathlib.Omega.{arith}
use Rattle.looks.specs.Look.{quoted_is}
use Rattle.looks.proofs.quoted_end.Goals as goal

pub returns : goal.returns
returns c h =
    quoted_is (c.stands_to-b.ensures (omega (arith, c.if-b-eq0.false))) c.text_end-q.ensures
    (c.stands_to.ensures h)
