use Rattle.spans.specs.rule.Says.{is_value}
use Rattle.spans.proofs.is_value.Goals as goal

pub returns : goal.returns
unfolding is_value
returns c = rw c.is_digit.ensures
