use native.Mathlib.Omega.{arith}
use mathlib.Core.Path.{refl}
use lib.Count.{trailing_le}
use Rattle.tokens.specs.Spaces.{bytes_clear}
use Rattle.tokens.proofs.Spaces.{clear_most}
use Rattle.tokens.proofs.bytes_clear.Goals as goal

pub overflow_cast-result : goal.overflow_cast-result
overflow_cast-result c = omega (arith, trailing_le 64 c.args.x)

pub returns : goal.returns
unfolding bytes_clear
returns c = (refl, clear_most c.args.x)
