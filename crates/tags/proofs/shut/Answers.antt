use mathlib.Core.Path.{sym, ◌∙◌}
use Rattle.tags.specs.rule.Tag.{shut_tag}
use Rattle.tags.proofs.shut.Goals as goal

pub returns-then-misses : goal.returns-then-misses
unfolding shut_tag
returns-then-misses c = rw (sym c.misses.ensures ∙ c.if-misses.true)

pub returns : goal.returns
unfolding shut_tag
returns c = rw (sym c.misses.ensures ∙ c.if-misses.false)
