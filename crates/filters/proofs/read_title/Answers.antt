use mathlib.Core.Path.{◌∙◌}
use Rattle.filters.proofs.read_title.Goals as goal

pub returns-then-old : goal.returns-then-old
returns-then-old c = c.read_tag.ensures ∙ rw c.if-old.true

pub returns : goal.returns
returns c = c.read_tag-2.ensures ∙ rw c.if-old.false
