use mathlib.Core.Path.{sym, ◌∙◌}
use Rattle.contents.specs.rule.Step.{close_at}
use Rattle.contents.proofs.step_close.Goals as goal

pub returns-in-Past : goal.returns-in-Past
unfolding close_at
returns-in-Past c = rw (
  c.if-g.true,
  sym c.read_shut.ensures ∙ c.in-Past.is,
)

pub returns-in-Broken : goal.returns-in-Broken
unfolding close_at
returns-in-Broken c = rw (
  c.if-g.true,
  sym c.read_shut.ensures ∙ c.in-Broken.is,
) c.broken.ensures

pub returns-in-Past-read_shut : goal.returns-in-Past-read_shut
unfolding close_at
returns-in-Past-read_shut c = rw (
  c.if-g.false,
  sym c.read_shut-2.ensures ∙ c.in-Past-read_shut.is,
)

pub returns-in-Broken-read_shut : goal.returns-in-Broken-read_shut
unfolding close_at
returns-in-Broken-read_shut c = rw (
  c.if-g.false,
  sym c.read_shut-2.ensures ∙ c.in-Broken-read_shut.is,
) c.broken-in-Broken-read_shut.ensures
