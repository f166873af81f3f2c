use mathlib.Core.Path.{◌∙◌}
use native.Mathlib.Omega.{arith}
use Rattle.filters.proofs.folded.Goals as goal

pub returns-in-Byte : goal.returns-in-Byte
returns-in-Byte c = (
  c.upper.ensures ∙ rw c.in-Byte.is,
  omega arith,
)
