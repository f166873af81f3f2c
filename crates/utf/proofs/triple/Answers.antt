use Rattle.utf.specs.rule.Cut.{triple_of}
use Rattle.utf.proofs.triple.Goals as goal

pub returns : goal.returns
unfolding triple_of
returns c =
    rw (
      c.does_follow.ensures,
      c.does_follow-2.ensures,
      c.is_legal.ensures,
      c.bits.ensures.0,
      c.bits-2.ensures.0,
      c.bits-3.ensures.0,
    )
