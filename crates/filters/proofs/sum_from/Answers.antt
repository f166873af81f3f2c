use mathlib.Core.Path.{sym, ◌∙◌}
use Rattle.filters.proofs.sum_from.Goals as goal

pub rest_sum-requires : goal.rest_sum-requires
rest_sum-requires c = c.lead_sum-s.ensures.within

pub returns : goal.returns
returns c = c.rest_sum.ensures ∙ sym (c.lead_sum-s.ensures.again c.args.latin)
