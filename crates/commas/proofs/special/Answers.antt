-- `commas::special` meets its contract.
use mathlib.Core.Path.{refl}
use Rattle.commas.specs.rule.Csv.{is_special}
use Rattle.commas.proofs.special.Goals as goal

pub returns : goal.returns
unfolding is_special
returns c = refl
