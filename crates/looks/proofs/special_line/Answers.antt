use native.Mathlib.Omega.{arith}
use Rattle.looks.specs.Look.{special_lined}
use Rattle.looks.proofs.special_line.Goals as goal

pub returns : goal.returns
returns c h = special_lined c.if-v-n.false c.value_to-v.ensures (c.special_end.ensures h)

pub returns-then-v-n : goal.returns-then-v-n
returns-then-v-n c h = absurd (omega arith)
