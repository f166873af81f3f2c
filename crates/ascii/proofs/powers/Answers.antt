-- `ascii::powers` meets its contract: antt computes the sixteen powers.
use mathlib.Core.Path.{refl}
use Rattle.below.specs.rule.Table.{table_from}
use Rattle.ascii.proofs.powers.Goals as goal

pub returns : goal.returns
unfolding table_from
returns c = refl
