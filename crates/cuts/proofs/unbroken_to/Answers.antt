-- `cuts::unbroken_to` meets its contract.
use native.Mathlib.Omega.{arith}
use Rattle.cuts.specs.Cut.{unbroken_none, unbroken_plain}
use Rattle.cuts.proofs.unbroken_to.Goals as goal

pub returns-then-w-lt32 : goal.returns-then-w-lt32
returns-then-w-lt32 c = unbroken_plain _ _ _ _ (omega arith) c.plain_to.ensures

pub returns : goal.returns
returns c = unbroken_none _ _ _ (omega arith)
