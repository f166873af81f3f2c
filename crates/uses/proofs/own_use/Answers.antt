use mathlib.Core.Path.{refl}
use Rattle.uses.proofs.own_use.Goals as goal

-- the test is the definition, clause for clause
pub returns : goal.returns
returns c = refl
