use Rattle.names.specs.Name.{fits}
use Rattle.filters.proofs.may_stand.Goals as goal

pub returns : goal.returns
unfolding fits
returns c = rw c.class_of-class.ensures
