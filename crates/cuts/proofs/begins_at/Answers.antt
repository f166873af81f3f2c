use mathlib.Core.Path.{sym, ◌∙◌}
use Rattle.cuts.specs.Cut.{stands_not, stands_whole}
use Rattle.cuts.proofs.begins_at.Goals as goal

pub returns-then-d-i : goal.returns-then-d-i
returns-then-d-i c = sym (stands_not _ _ _ c.requires c.if-d-i.true)

pub returns : goal.returns
returns c = c.whole_at.ensures ∙ sym (stands_whole _ _ _ c.requires c.if-d-i.false)
