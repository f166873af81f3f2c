use Rattle.utf.specs.rule.Cut.{valid_pair}
use Rattle.utf.proofs.pair.Goals as goal

pub returns : goal.returns
unfolding valid_pair
returns c = rw (
  c.does_follow.ensures,
  c.is_legal.ensures,
  c.bits.ensures.0,
  c.bits-2.ensures.0,
)
