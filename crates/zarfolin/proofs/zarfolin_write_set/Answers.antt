-- `zarfolin::zarfolin_write_set` meets its contract.
use Rattle.writes.specs.rule.Write.{lent_value}
use Rattle.zarfolin.proofs.zarfolin_write_set.Goals as goal

pub returns : goal.returns
unfolding lent_value
returns c = rw c.number_of.ensures c.write_value.ensures
