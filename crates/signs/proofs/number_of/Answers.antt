use native.Mathlib.Omega.{arith}
use mathlib.Core.Path.{◌∙◌}
use Rattle.signs.specs.rule.Sign.{sign_number}
use Rattle.signs.proofs.number_of.Goals as goal

pub returns-in-Byte : goal.returns-in-Byte
unfolding sign_number
returns-in-Byte c = (c.from.ensures ∙ rw c.in-Byte.is, omega arith)

pub returns-in-Break : goal.returns-in-Break
unfolding sign_number
returns-in-Break c = (rw c.in-Break.is, omega arith)
