use mathlib.Core.Path.{◌∙◌}
use Rattle.cuts.specs.rule.Cut.{next_of}
use Rattle.cuts.proofs.next_record.Goals as goal

pub returns : goal.returns
unfolding next_of
returns c = record { says = c.next_from.ensures ∙ rw c.find_terminator.ensures.is }
