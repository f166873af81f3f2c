use mathlib.Core.Path.{sym, ◌∙◌}
use Rattle.prologs.specs.rule.Told.{is_xml}
use Rattle.prologs.proofs.is_xml.Goals as goal

pub returns-then-is_there : goal.returns-then-is_there
unfolding is_xml
returns-then-is_there c = rw (← c.start-at.ensures.0, sym c.is_there.ensures ∙ c.if-is_there.true)

pub returns : goal.returns
unfolding is_xml
returns c = rw (
  ← c.start-at.ensures.0,
  sym c.is_there.ensures ∙ c.if-is_there.false,
) c.is_there-2.ensures
