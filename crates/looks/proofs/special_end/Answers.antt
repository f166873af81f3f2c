use native.Mathlib.Omega.{arith}
use Rattle.looks.specs.Look.{special_is}
use Rattle.looks.proofs.special_end.Goals as goal

pub returns : goal.returns
returns c h =
    special_is (c.stands_to-b.ensures (omega (arith, c.if-b-eq0.false))) c.text_end-q.ensures
    (c.stands_to.ensures h)
