use Rattle.xml_reading.specs.rule.Role.{type_at}
use Rattle.filters.proofs.kind_at.Goals as goal

pub returns : goal.returns
unfolding type_at
returns c = c.kind_in.ensures
