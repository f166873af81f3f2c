use Rattle.values.specs.Value.{large_of}
use Rattle.values.proofs.large.Goals as goal

pub returns-then-quantity : goal.returns-then-quantity
unfolding large_of
returns-then-quantity c =
    rw c.if-quantity.true

pub returns : goal.returns
unfolding large_of
returns c =
    rw c.if-quantity.false
