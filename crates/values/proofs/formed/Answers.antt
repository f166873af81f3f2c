use Rattle.values.specs.Value.{form_of}
use Rattle.values.proofs.formed.Goals as goal

pub returns-then-quantity : goal.returns-then-quantity
unfolding form_of
returns-then-quantity c =
    rw c.if-quantity.true

pub returns : goal.returns
unfolding form_of
returns c =
    rw c.if-quantity.false
