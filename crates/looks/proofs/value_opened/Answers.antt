use native.Mathlib.Omega.{arith}
use Rattle.looks.specs.Look.{opened_is}
use Rattle.looks.proofs.value_opened.Goals as goal

pub returns : goal.returns
returns c h =
    opened_is c.if-v-n.false c.value_to-v.ensures (c.stands_to-s.ensures (omega (arith, c.if-s-eq0.false)))
