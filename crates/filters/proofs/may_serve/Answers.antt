use Rattle.xml_reading.specs.rule.Role.{may_serve}
use mathlib.Core.Path.{refl}
use Rattle.filters.proofs.may_serve.Goals as goal

pub returns : goal.returns
unfolding may_serve
returns c = refl
