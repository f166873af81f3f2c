use Rattle.attributes.specs.rule.Attribute.{named_of}
use Rattle.attributes.proofs.named.Goals as goal

pub returns : goal.returns
unfolding named_of
returns c = rw (← c.run-e.ensures.0, ← c.run-m.ensures.0) c.equals.ensures
