-- `faults::at_point` meets its contract: the same test.
use mathlib.Core.Path.{refl}
use Rattle.faults.specs.rule.Fault.{point_place}
use Rattle.faults.proofs.at_point.Goals as goal

pub returns : goal.returns
unfolding point_place
returns c = refl
