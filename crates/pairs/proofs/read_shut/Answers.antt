use mathlib.Core.Path.{sym, ◌∙◌}
use Rattle.pairs.specs.rule.Stand.{shut_of}
use Rattle.pairs.proofs.read_shut.Goals as goal

pub returns-then-is_named : goal.returns-then-is_named
unfolding shut_of
returns-then-is_named c = rw (
  sym c.read_end.ensures ∙ c.in-Past.is,
  sym c.is_named.ensures ∙ c.if-is_named.true,
)

pub returns-else-is_named : goal.returns-else-is_named
unfolding shut_of
returns-else-is_named c = rw (
  sym c.read_end.ensures ∙ c.in-Past.is,
  sym c.is_named.ensures ∙ c.if-is_named.false,
)

pub returns-in-Broken : goal.returns-in-Broken
unfolding shut_of
returns-in-Broken c = rw (sym c.read_end.ensures ∙ c.in-Broken.is)
