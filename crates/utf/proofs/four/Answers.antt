use Rattle.utf.specs.rule.Cut.{valid_four}
use Rattle.utf.proofs.four.Goals as goal

pub returns : goal.returns
unfolding valid_four
returns c =
    rw (
      c.does_follow.ensures,
      c.does_follow-2.ensures,
      c.does_follow-3.ensures,
      c.is_legal.ensures,
    ) (rw (
      c.bits.ensures.0,
      c.bits-2.ensures.0,
      c.bits-3.ensures.0,
      c.bits-4.ensures.0,
    ))
