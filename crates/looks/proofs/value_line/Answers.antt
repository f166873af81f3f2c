use native.Mathlib.Omega.{arith}
use Rattle.looks.specs.Look.{value_lined}
use Rattle.looks.proofs.value_line.Goals as goal

pub returns : goal.returns
returns c h = value_lined c.if-v-n.false c.value_to-v.ensures (c.quoted_end.ensures h)

pub returns-then-v-n : goal.returns-then-v-n
returns-then-v-n c h = absurd (omega arith)
