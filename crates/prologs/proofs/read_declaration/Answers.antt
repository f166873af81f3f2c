use mathlib.Core.Path.{sym, ◌∙◌}
use Rattle.prologs.specs.rule.Told.{declaration_of}
use Rattle.prologs.proofs.read_declaration.Goals as goal

pub declaration_at-requires : goal.declaration_at-requires
declaration_at-requires c = sym c.is_there.ensures ∙ c.if-is_there.true

pub returns-then-is_there : goal.returns-then-is_there
unfolding declaration_of
returns-then-is_there c = rw (
  ← c.start-at.ensures.0,
  sym c.is_there.ensures ∙ c.if-is_there.true,
) c.declaration_at.ensures

pub returns : goal.returns
unfolding declaration_of
returns c = rw (← c.start-at.ensures.0, sym c.is_there.ensures ∙ c.if-is_there.false)
