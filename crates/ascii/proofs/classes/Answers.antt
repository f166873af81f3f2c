-- `ascii::classes` meets its contract: antt computes the 256 classes.
use mathlib.Core.Path.{refl}
use Rattle.below.specs.rule.Table.{table_from}
use Rattle.ascii.specs.rule.Class.{class_of}
use Rattle.ascii.proofs.classes.Goals as goal

pub returns : goal.returns
unfolding class_of table_from
returns c = refl
